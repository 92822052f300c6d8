-- The checksum is of the two numbers ahead of it.
use Rattle.whole.proofs.Stored.{location-laid}
use Rattle.whole.proofs.put_location.Goals as goal

pub returns : goal.returns
returns c = location-laid _ _ _ _ _ _ _ _ c.requires.0 c.put_address.ensures c.put.ensures c.put_sum.ensures
