-- A step that gives an entry moves on, and any other stays.
use mathlib.Core.Path.{refl}
use native.Mathlib.Omega.{arith}
use Rattle.browsing.proofs.Steps.{no_entry, next-behind, next_stays, next-within}
use Rattle.browsing.proofs.next_at.Goals as goal

pub overflow_add-result : goal.overflow_add-result
overflow_add-result c = omega (arith, next-within _ _ c.in-Entry.ensures refl)

pub returns-in-Entry : goal.returns-in-Entry
returns-in-Entry c = next-behind _ _ c.in-Entry.ensures refl

pub returns-in-End : goal.returns-in-End
returns-in-End c = next_stays _ _ c.step_at.ensures (no_entry _ c.in-End.is)
