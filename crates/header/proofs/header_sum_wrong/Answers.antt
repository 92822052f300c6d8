-- The row is that no checksum stands.
use mathlib.Core.Bool.{not}
use mathlib.Core.Path.{ap}
use Rattle.rules.specs.Rows.{header_sum_wrong}
use Rattle.header.proofs.header_sum_wrong.Goals as goal

pub returns : goal.returns
unfolding header_sum_wrong
returns c = ap not c.sum_stands.ensures
