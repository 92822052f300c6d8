-- It is the formula.
use borrow.Author.Rules.{rules}
use Rattle.rules.specs.Layout.{address_bytes}
use Rattle.layout.proofs.put_address.Goals as goal

pub returns : goal.returns
unfolding address_bytes
returns c = search rules
