-- It is the formula.
use borrow.Author.Rules.{rules}
use Rattle.rules.specs.Layout.{version}
use Rattle.layout.proofs.version.Goals as goal

pub returns : goal.returns
unfolding version
returns c = search rules
