-- What was told of the pages so far, and of one more.
use mathlib.Core.Path.{refl}
use borrow.Author.Rules.{rules}
use Rattle.std.specs.Prelude.{◌≡◌, ◌==◌}
use Rattle.std.specs.List.{list_any}
use Rattle.std.proofs.lemmas.Fn.{fold_over, fronts}
use Rattle.std.proofs.lemmas.Iterator.{YieldsList-from_slice}
use Rattle.index.proofs.Search.{any-more}
use Rattle.index.proofs.any_is.Goals as goal

pub returns : goal.returns
returns c =
    fold_over fronts (λ y. y.now) _ (λ ys a. a ≡ list_any (λ own. own == c.args.page) ys) _
    (λ ys a x b f' h k. (any-more c.args.page ys x.now a b h (search rules), search rules))
    c.iter.result c.args.pages.now _ _ (YieldsList-from_slice _ c.iter.ensures.rest).runs refl c.fold.ensures.ran
