-- The rows of the revision come behind those of the history.
use mathlib.Core.Path.{refl}
use Rattle.rules.specs.Calls.{browse_rows}
use Rattle.rules.proofs.Rows.{rows_past}
use Rattle.rules.proofs.Refusals.{refused-ahead}
use Rattle.revisions.proofs.Known.{asked_rows}
use Rattle.revisions.proofs.judge_alone.Goals as goal

pub returns-in_err-history-clause-number : goal.returns-in_err-history-clause-number
unfolding browse_rows
returns-in_err-history-clause-number c = refused-ahead _ _ _ c.from_residual.ensures.1 c.in_err-history.ensures.number

pub returns : goal.returns
unfolding browse_rows
returns c =
    let whole = c.in_ok-history in
    let ahead = whole.ensures in
    let judged = c.judge_asked.ensures in
    record { number = rows_past _ ahead.number refl (rw ahead.lent at (asked_rows _ _ whole.history.sound judged.number)); standing = rw ahead.lent at judged.standing }
