-- Each turn notes one page more, directly behind those noted so far.
use mathlib.Core.Path.{refl, ◌∙◌}
use Prim.Native.Nat.{◌<◌}
use native.Mathlib.Numerals.{add-one}
use native.Mathlib.Omega.{arith}
use lib.ListN.{length}
use lib.Seq.{take-suc-set}
use Rattle.rules.specs.Bytes.{tabulate}
use Rattle.touching.proofs.note_pages.Goals as goal

pub loop-k-init : goal.loop-k-init
unfolding tabulate
loop-k-init c = refl

pub loop-k-preserved : goal.loop-k-preserved
unfolding tabulate
loop-k-preserved c =
    let more : c.loop-k.k < length c.loop-k.pages = omega arith in
    rw add-one (take-suc-set c.loop-k.pages c.loop-k.k _ more ∙ rw c.loop-k.invariant)
