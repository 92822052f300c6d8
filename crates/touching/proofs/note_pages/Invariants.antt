-- Each turn notes one page more, directly behind those noted so far.
use mathlib.Core.Path.{◌≡◌}
use Prim.Native.Nat.{◌+◌, ◌*◌}
use lib.ListN.{take}
use Rattle.rules.specs.Bytes.{tabulate}
use Rattle.touching.proofs.note_pages.Given as goal

abbrev pub invariant-loop-k : goal.invariant-loop-k
invariant-loop-k l = take l.k l.pages ≡ tabulate l.k (λ i. l.first + i * l.page)
