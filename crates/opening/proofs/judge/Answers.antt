-- One row after the other, in the order of the call.
use mathlib.Core.Path.{refl, sym, ◌∙◌}
use native.Mathlib.Omega.{arith}
use Rattle.rules.proofs.Rows.{row-holds, row_past}
use Rattle.rules.proofs.Refusals.{refused, number-handed_on}
use Rattle.revisions.proofs.Known.{asked_is, standing_is}
use Rattle.opening.proofs.Locking.{full-holds, full_past, open_both, open-behind}
use Rattle.opening.proofs.judge.Goals as goal

pub returns-in_err-history-clause-number : goal.returns-in_err-history-clause-number
returns-in_err-history-clause-number c =
    let h = c.in_err-history in
    number-handed_on _ _ c.from_residual.ensures.1 ∙ open_both _ _ _ _ h.ensures.number (refused _)

pub returns-then-revision_unknown-clause-number : goal.returns-then-revision_unknown-clause-number
returns-then-revision_unknown-clause-number c =
    let both = c.in_ok-history.ensures in
    let sound = rw both.lent at c.in_ok-history.history.sound in
    open-behind _ _ _ both.number refl sound refl (row-holds 6 _ (omega arith) c.revision_unknown.ensures c.if-revision_unknown.true)

pub returns-then-setting-clause-number : goal.returns-then-setting-clause-number
returns-then-setting-clause-number c =
    let both = c.in_ok-history.ensures in
    let sound = rw both.lent at c.in_ok-history.history.sound in
    open-behind _ _ _ both.number refl sound refl (row_past 6 _ c.revision_unknown.ensures c.if-revision_unknown.false (row-holds 11 _ (omega arith) refl c.if-setting.true))

pub returns-then-not_newest-clause-number : goal.returns-then-not_newest-clause-number
returns-then-not_newest-clause-number c =
    let both = c.in_ok-history.ensures in
    let sound = rw both.lent at c.in_ok-history.history.sound in
    open-behind _ _ _ both.number refl sound c.asked-k.ensures (row_past 6 _ c.revision_unknown.ensures c.if-revision_unknown.false (row_past 11 _ refl c.if-setting.false (row-holds 12 _ (omega arith) c.not_newest.ensures c.if-not_newest.true)))

pub returns-then-setting-ge-REVISIONS-clause-number : goal.returns-then-setting-ge-REVISIONS-clause-number
returns-then-setting-ge-REVISIONS-clause-number c =
    let both = c.in_ok-history.ensures in
    let sound = rw both.lent at c.in_ok-history.history.sound in
    open-behind _ _ _ both.number refl sound c.asked-k.ensures (row_past 6 _ c.revision_unknown.ensures c.if-revision_unknown.false (row_past 11 _ refl c.if-setting.false (row_past 12 _ c.not_newest.ensures c.if-not_newest.false (row-holds 18 _ (omega arith) refl (full-holds _ c.if-setting-ge-REVISIONS.true)))))

pub judge-requires : goal.judge-requires
judge-requires c =
    asked_is _ _ c.asked-k.ensures (sym c.revision_unknown.ensures ∙ c.if-revision_unknown.false)

pub returns-in_err-record-clause-number : goal.returns-in_err-record-clause-number
returns-in_err-record-clause-number c =
    let both = c.in_ok-history.ensures in
    let sound = rw both.lent at c.in_ok-history.history.sound in
    let parent = number-handed_on _ _ c.from_residual-in_err-record.ensures.1 ∙ rw both.lent at c.in_err-record.ensures.number in
    open-behind _ _ _ both.number refl sound c.asked-k.ensures (row_past 6 _ c.revision_unknown.ensures c.if-revision_unknown.false (row_past 11 _ refl c.if-setting.false (row_past 12 _ c.not_newest.ensures c.if-not_newest.false (row_past 18 _ refl (full_past _ c.if-setting-ge-REVISIONS.false) parent))))

pub returns : goal.returns
returns c =
    let both = c.in_ok-history.ensures in
    let sound = rw both.lent at c.in_ok-history.history.sound in
    let parent = c.in_ok-record.ensures in
    let asked = c.asked-k.ensures in
    record { number = open-behind _ _ _ both.number refl sound asked (row_past 6 _ c.revision_unknown.ensures c.if-revision_unknown.false (row_past 11 _ refl c.if-setting.false (row_past 12 _ c.not_newest.ensures c.if-not_newest.false (row_past 18 _ refl (full_past _ c.if-setting-ge-REVISIONS.false) (rw both.lent at parent.number))))); standing = rw both.lent at (standing_is _ _ asked parent.sound) }
