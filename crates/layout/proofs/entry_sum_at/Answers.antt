-- It is the formula.
use borrow.Author.Rules.{rules}
use Rattle.rules.specs.Layout.{entry_sum_at}
use Rattle.layout.proofs.entry_sum_at.Goals as goal

pub returns : goal.returns
unfolding entry_sum_at
returns c = search rules
