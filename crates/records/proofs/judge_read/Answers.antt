-- Row 7 comes first, and leaves what row 8 rests on.
use mathlib.Core.Path.{sym, ◌∙◌}
use native.Mathlib.Omega.{arith}
use Rattle.rules.proofs.Places.{end-behind}
use Rattle.rules.proofs.Rows.{row-holds, row_past, last-holds, last_past}
use Rattle.rules.proofs.Records.{record-right}
use Rattle.records.proofs.judge_read.Goals as goal

pub returns-then-record_wrong : goal.returns-then-record_wrong
returns-then-record_wrong c = row-holds 7 _ (omega arith) c.record_wrong.ensures c.if-record_wrong.true

pub record_sum_wrong-requires : goal.record_sum_wrong-requires
record_sum_wrong-requires c =
    let r = c.args.r in
    let w = (record-right _ _ _ _ (sym c.record_wrong.ensures ∙ c.if-record_wrong.false)).lies in
    let p = c.args.history.sound in
    let e = end-behind c.args.history.setting.form r.address r.size in
    (omega (arith, w.ends, e, p.inside), omega (arith, w.ends, w.sized, e, p.inside), p.short, omega (arith, w.sized))

pub returns-then-record_sum_wrong : goal.returns-then-record_sum_wrong
returns-then-record_sum_wrong c = row_past 7 _ c.record_wrong.ensures c.if-record_wrong.false (last-holds 8 c.record_sum_wrong.ensures c.if-record_sum_wrong.true)

pub returns : goal.returns
returns c = row_past 7 _ c.record_wrong.ensures c.if-record_wrong.false (last_past 8 c.record_sum_wrong.ensures c.if-record_sum_wrong.false)
