-- Row 13, the parent's rows, and the last condition of 13, in this order.
use mathlib.Core.Path.{refl, sym, ◌∙◌}
use native.Mathlib.Omega.{arith}
use Rattle.rules.specs.Calls.{session_rows}
use Rattle.rules.proofs.Rows.{row-holds, row_past, rows_past}
use Rattle.rules.proofs.Refusals.{refused-ahead}
use Rattle.rules.proofs.Sessions.{session-right}
use Rattle.sessions.proofs.Sound.{below-parent, not-below, session-sound}
use Rattle.sessions.proofs.judge_session.Goals as goal

pub returns-then-session_wrong-clause-number : goal.returns-then-session_wrong-clause-number
unfolding session_rows
returns-then-session_wrong-clause-number c = row-holds 13 _ (omega arith) c.session_wrong.ensures c.if-session_wrong.true

pub judge-requires : goal.judge-requires
judge-requires c =
    let w = session-right _ _ _ (sym c.session_wrong.ensures ∙ c.if-session_wrong.false) in
    omega (arith, w.parent, w.count)

pub returns-in_err-record-clause-number : goal.returns-in_err-record-clause-number
unfolding session_rows
returns-in_err-record-clause-number c =
    row_past 13 _ c.session_wrong.ensures c.if-session_wrong.false (refused-ahead _ _ _ c.from_residual.ensures.1 c.in_err-record.ensures.number)

pub returns-then-st-record-clause-number : goal.returns-then-st-record-clause-number
unfolding session_rows
returns-then-st-record-clause-number c =
    let parent = c.in_ok-record.ensures in
    row_past 13 _ c.session_wrong.ensures c.if-session_wrong.false (rows_past _ parent.number refl (below-parent _ parent.sound.found c.if-st-record.true))

pub returns : goal.returns
unfolding session_rows
returns c =
    let parent = c.in_ok-record.ensures in
    let wrong = c.session_wrong.ensures in
    let fits = c.if-session_wrong.false in
    let grown = c.if-st-record.false in
    record { number = row_past 13 _ wrong fits (rows_past _ parent.number refl (not-below _ parent.sound.found grown)); sound = session-sound _ _ _ (sym wrong ∙ fits) parent.sound grown }
