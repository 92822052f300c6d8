-- The rule has the time at the same place, and every front has room for it.
use mathlib.Core.Path.{refl}
use native.Mathlib.Omega.{arith}
use Rattle.rules.proofs.Places.{count-least}
use Rattle.records.proofs.time_at.Goals as goal

pub returns : goal.returns
returns c = (λ h. refl, λ f. omega (arith, count-least f), refl)
