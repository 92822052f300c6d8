-- What is left of the check is the rule of what is left, and a fault that is found is its whole answer.
use Rattle.checking.specs.Faults.{checked}
use Rattle.checking.proofs.Checking.{RevisionsLeft, EntriesLeft}
use Rattle.checking.proofs.check_revisions.Given as goal

abbrev pub invariant-loop-j : goal.invariant-loop-j
invariant-loop-j l = EntriesLeft l.history.bytes.now l.history.setting l.k l.x (checked l.found) l.j

abbrev pub invariant-revisions : goal.invariant-revisions
invariant-revisions l = RevisionsLeft l.history.bytes.now l.history.setting (checked l.found) l.k
