-- Each page is judged as the rule of those from it on does.
use mathlib.Core.Path.{◌∙◌}
use borrow.Author.Rules.{rules}
use borrow.Author.Tests.{tests}
use Rattle.std.proofs.lemmas.Iterator.{YieldsList-from_slice}
use Rattle.std.proofs.lemmas.Iterator.Consumers.{YieldsList-from_enumerate}
use Rattle.std.proofs.lemmas.Iterator.Search.{all_from_yields_List}
use Rattle.sessions.proofs.Pages.{page_fits, all-fit}
use Rattle.sessions.proofs.pages_fit.Goals as goal

pub returns : goal.returns
returns c =
    let a = c.args in
    all_from_yields_List (page_fits a.page a.size a.pages.now) _ _ _ c.all.ensures.ran (YieldsList-from_enumerate (YieldsList-from_slice a.pages.now (cc)) (cc)) (λ x b q k. search (rules, tests))
    ∙ all-fit a.page a.size a.pages.now
