-- What is left to judge is the rule of what is left, and the lines that are counted are those of the records that passed.
use mathlib.Core.Path.{sym, ◌∙◌}
use Prim.Native.Nat.{◌+◌}
use native.Mathlib.Omega.{arith}
use Rattle.rules.proofs.Refusals.{refused, number-handed_on}
use Rattle.listing.proofs.Passing.{rows-fault, rows_end, record-shown}
use Rattle.listing.proofs.Text.{LinesCounted, count_turn, count-end}
use Rattle.listing.proofs.judge_records.Goals as goal
use Rattle.listing.proofs.judge_records.Goals.{After-record_length-length}

pub returns-in_err-record-clause-number : goal.returns-in_err-record-clause-number
returns-in_err-record-clause-number c = number-handed_on _ _ c.from_residual.ensures.1 ∙ rows-fault c.loop-k.invariant.left.rows c.loop-k-test.true c.in_err-record.ensures.number (refused _)

pub record_length-length-requires : goal.record_length-length-requires
record_length-length-requires c =
    let judged = c.in_ok-record.ensures in
    let standing = judged.sound in
    let shown = record-shown _ _ _ (omega arith) (sym judged.number) standing.sound standing.found in
    (shown.named, shown.few)

more : (c : After-record_length-length) → LinesCounted c.args.history.bytes.now c.args.history.setting (c.loop-k.k + 1) (c.loop-k.length + c.record_length-length.result)
more c =
    let judged = c.in_ok-record.ensures in
    let clear = sym judged.number in
    let standing = judged.sound in
    let long = c.record_length-length.ensures in
    count_turn _ c.loop-k.invariant c.loop-k-test.true clear standing.found (long.0 _ _ (record-shown _ _ _ (omega arith) clear standing.sound standing.found)) long.1

pub loop-k-preserved : goal.loop-k-preserved
loop-k-preserved c = more (goal.at.loop-k-preserved c).After-record_length-length

pub returns : goal.returns
returns c =
    let counted = c.loop-k.invariant in
    record { number = rows_end counted.left.rows c.loop-k-test.false; counted = count-end counted c.loop-k-test.false c.args.history.sound.few }

pub returns-in_ok-record : goal.returns-in_ok-record
returns-in_ok-record c =
    let counted = more (goal.at.returns-in_ok-record c).After-record_length-length in
    record { number = rows_end counted.left.rows (omega arith); counted = count-end counted (omega arith) c.args.history.sound.few }
