-- The session's rows come behind those of original and history.
use mathlib.Core.Path.{refl}
use Rattle.rules.specs.Calls.{begin_rows}
use Rattle.rules.proofs.Rows.{rows_past}
use Rattle.rules.proofs.Refusals.{refused-ahead}
use Rattle.sessions.proofs.Sound.{rows_of-history}
use Rattle.sessions.proofs.judge.Goals as goal

pub returns-in_err-history-clause-number : goal.returns-in_err-history-clause-number
unfolding begin_rows
returns-in_err-history-clause-number c = refused-ahead _ _ _ c.from_residual.ensures.1 c.in_err-history.ensures.number

pub returns : goal.returns
unfolding begin_rows
returns c =
    let whole = c.in_ok-history in
    let ahead = whole.ensures in
    let judged = c.judge_session.ensures in
    record { number = rows_past _ ahead.number refl (rw ahead.lent at (rows_of-history c.args.st.now whole.history.sound judged.number)); sound = rw ahead.lent at judged.sound }
