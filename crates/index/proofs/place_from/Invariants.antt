-- The addresses ahead of low are below the one that is sought, those from high on are not, and each turn halves what is between.
use Prim.Native.Nat.{◌-◌}
use Rattle.rules.specs.Layout.{entries_in}
use Rattle.rules.specs.View.{logicals}
use Rattle.index.specs.Places.{Parted}
use Rattle.index.proofs.place_from.Given as goal

abbrev pub invariant-loop-low : goal.invariant-loop-low
invariant-loop-low l = Parted (logicals (entries_in l.history l.x)) l.address l.low l.high

abbrev pub decreases-loop-low : goal.decreases-loop-low
decreases-loop-low l = l.high - l.low
