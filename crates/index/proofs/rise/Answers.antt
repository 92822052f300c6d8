-- Each page is above the one before it.
use borrow.Author.Rules.{rules}
use borrow.Author.Tests.{tests}
use Rattle.std.specs.Prelude.{nat_lt}
use Rattle.std.proofs.lemmas.Fn.{always_returns_same}
use Rattle.index.proofs.Search.{pairs-rise}
use Rattle.index.proofs.rise.Goals as goal

pub returns : goal.returns
returns c =
    λ h. let k = c.is_sorted_by.ensures.cases nat_lt (always_returns_same _ _ _ (λ a r f' k. search (rules, tests))) in
    pairs-rise _ (rw h at k)
