-- The addresses ahead of low are below the one that is sought, those from high on are not, and each turn halves what is between.
use mathlib.Core.Path.{sym}
use Prim.Native.Nat.{◌≤◌}
use native.Mathlib.Omega.{arith}
use Rattle.rules.proofs.Entries.{length-logicals_entries}
use Rattle.index.proofs.Search.{part-start}
use Rattle.index.proofs.place_from.Goals as goal
use Rattle.index.proofs.place_from.Goals.{At-loop-low}

within : (c : At-loop-low) → c.loop-low.high ≤ c.args.x.entries
within c =
    let a = c.args in
    omega (arith, length-logicals_entries a.x.form a.history.now a.x.at a.x.entries, c.loop-low.invariant.within)

pub loop-low-init : goal.loop-low-init
loop-low-init c = part-start _ _ _ (sym (length-logicals_entries _ _ _ _))

pub logical-requires : goal.logical-requires
logical-requires c = (c.requires.within, omega (arith, within (goal.at.logical-requires c).At-loop-low))
