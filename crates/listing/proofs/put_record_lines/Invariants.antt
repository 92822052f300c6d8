-- What is written so far are the lines of the records so far, and every record passes.
use Rattle.listing.proofs.Text.{LinesWritten}
use Rattle.listing.proofs.put_record_lines.Given as goal

abbrev pub invariant-loop-k : goal.invariant-loop-k
invariant-loop-k l = LinesWritten l.lines.history.bytes.now l.lines.history.setting l.initial.out l.at l.k l.out l.next
