-- Row 5 comes behind the header's rows.
use mathlib.Core.Path.{refl}
use Rattle.rules.specs.Calls.{history_rows}
use Rattle.rules.proofs.Rows.{rows_past}
use Rattle.rules.proofs.Refusals.{refused-ahead}
use Rattle.whole.proofs.judge.Goals as goal

pub returns-in_err-header_rows-clause-number : goal.returns-in_err-header_rows-clause-number
unfolding history_rows
returns-in_err-header_rows-clause-number c = refused-ahead _ _ _ c.from_residual.ensures.1 c.in_err-header_rows.ensures

pub returns : goal.returns
unfolding history_rows
returns c = let h = c.in_ok-header_rows.ensures in record { number = rows_past _ h refl c.judge_whole.ensures.number; lent = c.judge_whole.ensures.lent }
