-- Both tests are the row's.
use mathlib.Core.Path.{ap}
use mathlib.Core.Bool.{Bool, not, ◌&&◌}
use lib.Dec.{leb}
use Rattle.rules.specs.Rows.{creation_wrong}
use Rattle.opening.proofs.creation_wrong.Goals as goal

pub returns : goal.returns
unfolding creation_wrong
returns c = ap (λ (b : Bool). not (b && leb c.args.original 16777216)) c.page_allowed.ensures
