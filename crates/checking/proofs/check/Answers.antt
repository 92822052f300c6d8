-- Rows 1, 2, 3 and 5 are the first of the check, and the revisions are all that is left of it.
use mathlib.Core.Path.{refl}
use Rattle.rules.proofs.Refusals.{refused}
use Rattle.checking.proofs.Checking.{check_refused, check_passed}
use Rattle.checking.proofs.check.Goals as goal

pub returns-in-Err : goal.returns-in-Err
returns-in-Err c = check_refused _ c.in-Err.ensures.number (refused _)

pub returns-in-Ok : goal.returns-in-Ok
returns-in-Ok c =
    let whole = c.in-Ok in
    let ahead = whole.ensures in
    check_passed _ ahead.number refl (rw ahead.lent at whole.history.sound.setting) (rw ahead.lent at c.check_revisions.ensures)
