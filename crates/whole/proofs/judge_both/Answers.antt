-- Row 4 goes by the length that the header says.
use mathlib.Core.Path.{refl, sym}
use native.Mathlib.Omega.{arith}
use Rattle.rules.specs.Calls.{both_rows}
use Rattle.rules.proofs.Rows.{rows_past, row-holds, row_past}
use Rattle.rules.proofs.Refusals.{refused-ahead}
use Rattle.rules.proofs.Headers.{header_facts}
use Rattle.whole.proofs.Whole.{original_differs, original_fits}
use Rattle.whole.proofs.judge_both.Goals as goal

pub returns-in_err-header_rows-clause-number : goal.returns-in_err-header_rows-clause-number
unfolding both_rows
returns-in_err-header_rows-clause-number c = refused-ahead _ _ _ c.from_residual.ensures.1 c.in_err-header_rows.ensures

pub setting_with-front-requires : goal.setting_with-front-requires
setting_with-front-requires c = (header_facts _ (sym c.in_ok-header_rows.ensures)).front

pub returns-then-original-front-clause-number : goal.returns-then-original-front-clause-number
unfolding both_rows
returns-then-original-front-clause-number c =
    let differs = original_differs _ _ c.setting_with-front.ensures c.if-original-front.true in
    rows_past _ c.in_ok-header_rows.ensures refl (row-holds 4 _ (omega arith) differs refl)

pub returns : goal.returns
unfolding both_rows
returns c =
    let whole = c.judge_whole.ensures in
    let fits = original_fits _ _ c.setting_with-front.ensures c.if-original-front.false in
    record { number = rows_past _ c.in_ok-header_rows.ensures refl (row_past 4 _ fits refl whole.number); lent = whole.lent }
