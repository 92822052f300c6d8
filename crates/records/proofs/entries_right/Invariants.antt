-- What is left to judge is the rule of what is left.
use Rattle.records.proofs.Entries.{EntriesLeft}
use Rattle.records.proofs.entries_right.Given as goal

abbrev pub invariant-loop-k : goal.invariant-loop-k
invariant-loop-k l = EntriesLeft l.history.setting l.r l.history.bytes.now l.x.at l.x.entries l.next l.k
