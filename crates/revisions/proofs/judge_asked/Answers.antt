-- Row 6 comes first, and leaves a revision that stands.
use mathlib.Core.Path.{sym, ◌∙◌}
use native.Mathlib.Omega.{arith}
use Rattle.rules.proofs.Rows.{row-holds, row_past}
use Rattle.rules.proofs.Refusals.{number-handed_on}
use Rattle.revisions.proofs.Known.{asked_is, standing_is}
use Rattle.revisions.proofs.judge_asked.Goals as goal

pub returns-then-revision_unknown-clause-number : goal.returns-then-revision_unknown-clause-number
returns-then-revision_unknown-clause-number c = row-holds 6 _ (omega arith) c.revision_unknown.ensures c.if-revision_unknown.true

pub judge-requires : goal.judge-requires
judge-requires c =
    asked_is _ _ c.asked.ensures (sym c.revision_unknown.ensures ∙ c.if-revision_unknown.false)

pub returns-in_err-record-clause-number : goal.returns-in_err-record-clause-number
returns-in_err-record-clause-number c =
    row_past 6 _ c.revision_unknown.ensures c.if-revision_unknown.false (number-handed_on _ _ c.from_residual.ensures.1 ∙ c.in_err-record.ensures.number ∙ rw c.asked.ensures)

pub returns : goal.returns
returns c =
    let asked = c.asked.ensures in
    let judged = c.in_ok-record.ensures in
    record { number = row_past 6 _ c.revision_unknown.ensures c.if-revision_unknown.false (judged.number ∙ rw asked); standing = standing_is _ _ asked judged.sound }
