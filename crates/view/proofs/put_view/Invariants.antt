-- The own pages from one on are laid over the revision's bytes; at the end that is all of them.
use lib.ListN.{length}
use Rattle.view.proofs.Overlay.{Overlaid}
use Rattle.view.proofs.put_view.Given as goal

abbrev pub invariant-loop-mine : goal.invariant-loop-mine
invariant-loop-mine l = Overlaid l.original l.history l.v l.from (length l.fn.out) l.out l.mine
