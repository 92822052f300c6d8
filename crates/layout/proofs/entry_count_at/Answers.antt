-- It is the formula.
use borrow.Author.Rules.{rules}
use Rattle.rules.specs.Layout.{entry_count_at}
use Rattle.layout.proofs.entry_count_at.Goals as goal

pub returns : goal.returns
unfolding entry_count_at
returns c = search rules
