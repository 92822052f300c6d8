-- Both tests are the row's.
use mathlib.Core.Path.{refl}
use Rattle.rules.specs.Rows.{revision_unknown}
use Rattle.revisions.proofs.revision_unknown.Goals as goal

pub returns : goal.returns
unfolding revision_unknown
returns c = refl
