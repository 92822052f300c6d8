-- The bytes done are the revision's, and the walk stands at the next stored page.
use Prim.Native.Nat.{◌-◌}
use Rattle.view.proofs.Walk.{Walked}
use Rattle.view.proofs.put_revision.Given as goal

abbrev pub invariant-loop-done : goal.invariant-loop-done
invariant-loop-done l = Walked l.original l.history l.x l.from l.fn.out l.out l.place l.done

abbrev pub decreases-loop-done : goal.decreases-loop-done
decreases-loop-done l = l.n - l.done
