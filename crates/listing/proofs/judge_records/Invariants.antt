-- What is left to judge is the rule of what is left, and the lines that are counted are those of the records that passed.
use Rattle.listing.proofs.Text.{LinesCounted}
use Rattle.listing.proofs.judge_records.Given as goal

abbrev pub invariant-loop-k : goal.invariant-loop-k
invariant-loop-k l = LinesCounted l.history.bytes.now l.history.setting l.k l.length
