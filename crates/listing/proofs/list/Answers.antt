-- What passes all rows is written.
use mathlib.Core.Path.{refl, ◌∙◌}
use Rattle.rules.proofs.Refusals.{refused}
use Rattle.listing.proofs.Text.{list_refused, list_lines}
use borrow.Author.Rules.{rules}
use Rattle.listing.proofs.list.Goals as goal

pub returns-in-Err : goal.returns-in-Err
returns-in-Err c = record { text = c.list_refused.ensures.text ∙ rw c.from.ensures (list_refused _ _ _ c.in-Err.ensures.number (refused _)); short = search rules }

pub returns-in-Ok : goal.returns-in-Ok
returns-in-Ok c =
    let judged = c.in-Ok in
    let ahead = judged.ensures in
    record { text = rw ahead.lent at (c.list_passed.ensures.text) ∙ list_lines _ _ _ ahead.number refl (rw ahead.lent at judged.lines.history.sound.setting); short = search rules }
