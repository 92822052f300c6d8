-- Both tests are the row's.
use mathlib.Core.Path.{refl}
use Rattle.rules.specs.Rows.{length_wrong}
use Rattle.header.proofs.length_wrong.Goals as goal

pub returns : goal.returns
unfolding length_wrong
returns c = refl
