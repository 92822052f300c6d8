-- The checksum stands behind the front that it is of.
use Rattle.header.proofs.Fields.{header_stores}
use borrow.Author.Rules.{rules}
use Rattle.header.proofs.fill_header.Goals as goal

pub returns : goal.returns
returns c = header_stores _ _ _ _ (search rules) c.put_front.ensures c.put_sum.ensures
