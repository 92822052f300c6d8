-- After k pages history and session are those of the rule, and the rule's other pages are still to come.
use Prim.Native.Nat.{◌-◌}
use Rattle.rules.specs.Layout.{entries_in}
use Rattle.touching.proofs.Loop.{Writing}
use Rattle.touching.proofs.Write.put.Given as goal

abbrev pub invariant-loop-k : goal.invariant-loop-k
invariant-loop-k l =
    let w = l.self in
    Writing w.original.now w.setting w.index (entries_in l.initial.history w.index) w.offset w.bytes.now l.m (record { history = l.initial.history; session = l.initial.t }) (record { history = l.history; session = l.t }) l.a l.k

abbrev pub decreases-loop-k : goal.decreases-loop-k
decreases-loop-k l = l.m - l.k
