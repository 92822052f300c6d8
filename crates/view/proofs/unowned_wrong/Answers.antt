-- The entry at the place is its page's: the page is whole, or the session's own, or its checksum decides.
use mathlib.Core.Path.{sym, ◌∙◌}
use Rattle.view.proofs.Pages.{entry-room, whole_fine, owned_fine, unowned-page}
use Rattle.view.proofs.unowned_wrong.Goals as goal

pub page_sum_wrong-requires : goal.page_sum_wrong-requires
page_sum_wrong-requires c = (entry-room _ c.args.v c.requires.0 _ c.requires.1 c.entry-e.ensures, c.requires.0.short)

pub returns-then-not-page_sum_wrong : goal.returns-then-not-page_sum_wrong
returns-then-not-page_sum_wrong c =
    whole_fine _ c.args.v c.requires.0 _ c.requires.1 c.entry-e.ensures (sym c.page_sum_wrong.ensures ∙ c.if-not-page_sum_wrong.true)

pub page_sum_wrong-requires-then-is_none : goal.page_sum_wrong-requires-then-is_none
page_sum_wrong-requires-then-is_none c =
    (entry-room _ c.args.v c.requires.0 _ c.requires.1 c.entry-e.ensures, c.requires.0.short)

pub returns-then-is_none : goal.returns-then-is_none
returns-then-is_none c =
    c.page_sum_wrong-then-is_none.ensures ∙ unowned-page _ c.args.v c.requires.0 _ c.requires.1 c.entry-e.ensures (sym c.own_place.ensures.found ∙ c.if-is_none.ensures)

pub returns-else-is_none : goal.returns-else-is_none
returns-else-is_none c =
    c.if-is_none.false ∙ owned_fine _ c.args.v c.requires.0 _ c.requires.1 c.entry-e.ensures (sym c.own_place.ensures.found ∙ c.if-is_none.ensures)
