-- Only the greatest number means the newest.
use borrow.Author.Tests.{eq-eqb, ne_eqb}
use Rattle.rules.specs.Calls.{asked}
use Rattle.revisions.proofs.asked.Goals as goal

pub returns-then-revision-eq-NEWEST : goal.returns-then-revision-eq-NEWEST
unfolding asked
returns-then-revision-eq-NEWEST c = rw (eq-eqb _ _ c.if-revision-eq-NEWEST.true)

pub returns : goal.returns
unfolding asked
returns c = rw (ne_eqb _ _ c.if-revision-eq-NEWEST.false)
