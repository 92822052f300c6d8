-- It is the formula.
use borrow.Author.Rules.{rules}
use Rattle.rules.specs.Layout.{end_of}
use Rattle.layout.proofs.created_length.Goals as goal

pub returns : goal.returns
unfolding end_of
returns c = search rules
