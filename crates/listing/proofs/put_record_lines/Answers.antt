-- What is written so far are the lines of the records so far, and every record passes.
use native.Mathlib.Omega.{arith}
use Rattle.listing.proofs.Passing.{record-shown}
use Rattle.listing.proofs.Text.{written_start, written-clear, written-room, written_turn, written-end}
use Rattle.listing.proofs.put_record_lines.Goals as goal

pub loop-k-init : goal.loop-k-init
loop-k-init c = written_start _ _ _ _ c.requires c.args.lines.clear

pub passed-record-requires : goal.passed-record-requires
passed-record-requires c =
    let clear = written-clear c.loop-k.invariant c.loop-k-test.true in
    (omega arith, omega arith, clear)

pub put_record_line-next-requires : goal.put_record_line-next-requires
put_record_line-next-requires c =
    let lines = c.loop-k.invariant in
    let more = c.loop-k-test.true in
    let found = c.passed-record.ensures in
    let sound = c.args.lines.history.sound in
    (written-room lines more found, record-shown _ _ _ (omega arith) (written-clear lines more) sound found)

pub loop-k-preserved : goal.loop-k-preserved
loop-k-preserved c =
    let lines = c.loop-k.invariant in
    let more = c.loop-k-test.true in
    written_turn lines more c.passed-record.ensures c.put_record_line-next.ensures

pub returns : goal.returns
returns c = written-end c.loop-k.invariant c.loop-k-test.false

pub returns-2 : goal.returns-2
returns-2 c = written-end (written_turn c.loop-k.invariant c.loop-k-test.true c.passed-record.ensures c.put_record_line-next.ensures) (omega arith)
