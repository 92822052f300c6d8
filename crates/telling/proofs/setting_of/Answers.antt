-- The setting that the rows have passed is the one told.
use mathlib.Core.Path.{refl}
use borrow.Author.Rules.{rules}
use Rattle.rules.proofs.Refusals.{refused}
use Rattle.telling.proofs.Told.{setting_refused, setting_told_lem}
use Rattle.telling.proofs.setting_of.Goals as goal

pub returns-in-Err : goal.returns-in-Err
returns-in-Err c =
    setting_refused _ c.in-Err.ensures.number (refused _) (search rules)

pub returns-in-Ok : goal.returns-in-Ok
returns-in-Ok c =
    let whole = c.in-Ok in
    let ahead = whole.ensures in
    setting_told_lem _ ahead.number refl (rw ahead.lent at whole.field-0.sound) (rw c.end_of.ensures)
