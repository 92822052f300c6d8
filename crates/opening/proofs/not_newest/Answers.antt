-- Both tests are the row's.
use mathlib.Core.Path.{refl}
use Rattle.rules.specs.Rows.{not_newest}
use Rattle.opening.proofs.not_newest.Goals as goal

pub returns : goal.returns
unfolding not_newest
returns c = refl
