-- The entries between the two places are those of the pages; the ones passed are fine.
use Rattle.view.proofs.Pages.{EntriesLeft}
use Rattle.view.proofs.pages_wrong.Given as goal

abbrev pub invariant-loop-place : goal.invariant-loop-place
invariant-loop-place l = EntriesLeft l.history l.v l.first l.place
