-- Row 1 leaves what rows 2 and 3 rest on.
use mathlib.Core.Path.{sym, ◌∙◌}
use native.Mathlib.Omega.{arith}
use Rattle.rules.specs.Layout.{header_width}
use Rattle.rules.specs.Calls.{header_rows}
use Rattle.rules.proofs.Rows.{row-holds, row_past, last-holds, last_past}
use Rattle.rules.proofs.Headers.{length-right}
use Rattle.header.proofs.header_rows.Goals as goal

pub returns-then-length_wrong : goal.returns-then-length_wrong
unfolding header_rows
returns-then-length_wrong c = row-holds 1 _ (omega arith) c.length_wrong.ensures c.if-length_wrong.true

pub header_wrong-requires : goal.header_wrong-requires
header_wrong-requires c = (length-right header_width _ (sym c.length_wrong.ensures ∙ c.if-length_wrong.false)).0

pub returns-then-header_wrong : goal.returns-then-header_wrong
unfolding header_rows
returns-then-header_wrong c = row_past 1 _ c.length_wrong.ensures c.if-length_wrong.false (row-holds 2 _ (omega arith) c.header_wrong.ensures c.if-header_wrong.true)

pub header_sum_wrong-requires : goal.header_sum_wrong-requires
header_sum_wrong-requires c = length-right header_width _ (sym c.length_wrong.ensures ∙ c.if-length_wrong.false)

pub returns-then-header_sum_wrong : goal.returns-then-header_sum_wrong
unfolding header_rows
returns-then-header_sum_wrong c =
    row_past 1 _ c.length_wrong.ensures c.if-length_wrong.false
    (row_past 2 _ c.header_wrong.ensures c.if-header_wrong.false (last-holds 3 c.header_sum_wrong.ensures c.if-header_sum_wrong.true))

pub returns : goal.returns
unfolding header_rows
returns c =
    row_past 1 _ c.length_wrong.ensures c.if-length_wrong.false
    (row_past 2 _ c.header_wrong.ensures c.if-header_wrong.false (last_past 3 c.header_sum_wrong.ensures c.if-header_sum_wrong.false))
