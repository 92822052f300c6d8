-- The checksum is of the start alone.
use Rattle.whole.proofs.Stored.{empty-laid}
use Rattle.whole.proofs.put_empty.Goals as goal

pub returns : goal.returns
returns c = empty-laid _ _ _ _ _ c.requires.0 c.put_start.ensures c.put_sum.ensures
