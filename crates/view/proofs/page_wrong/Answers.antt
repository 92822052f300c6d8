-- The search tells whether the index has the page, and the entry found is the page's.
use mathlib.Core.Path.{◌∙◌}
use Rattle.view.proofs.Pages.{entry-room, missing-page, stored-page}
use Rattle.view.proofs.page_wrong.Goals as goal

pub returns-in_default : goal.returns-in_default
returns-in_default c = missing-page _ _ c.args.v.index _ c.in_default.ensures.found

pub page_sum_wrong-requires : goal.page_sum_wrong-requires
page_sum_wrong-requires c = (entry-room _ c.args.v c.requires _ c.in-Some.ensures.place.1 c.entry-e.ensures, c.requires.short)

pub returns : goal.returns
returns c =
    let found = c.in-Some.ensures.place in
    c.page_sum_wrong.ensures ∙ stored-page _ _ c.args.v.index _ found.0 found.1 c.entry-e.ensures
