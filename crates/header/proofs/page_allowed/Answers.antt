-- A number below 16 is refused before it divides.
use Rattle.header.proofs.Fields.{page-small, page_large}
use borrow.Author.Rules.{rules}
use Rattle.header.proofs.page_allowed.Goals as goal

pub returns-then-page-lt16 : goal.returns-then-page-lt16
returns-then-page-lt16 c = page-small _ (search rules)

pub returns : goal.returns
returns c = page_large _ (search rules)
