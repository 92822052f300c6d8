-- The multiple is told by the mask.
use Rattle.rules.specs.Rows.{look_up_outside}
use Rattle.lookup.proofs.look_up_outside.Goals as goal

pub returns : goal.returns
unfolding look_up_outside
returns c = rw c.multiple.ensures
