-- It is the formula.
use borrow.Author.Rules.{rules}
use Rattle.rules.specs.Layout.{address_at}
use Rattle.layout.proofs.get_address.Goals as goal

pub returns : goal.returns
unfolding address_at
returns c = search rules
