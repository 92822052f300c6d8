-- What is left to judge is the rule of what is left.
use mathlib.Core.Bool.{not}
use mathlib.Core.Path.{ap}
use Prim.Native.Nat.{ℕ, ◌+◌}
use native.Mathlib.Omega.{arith}
use Rattle.records.proofs.Entries.{entries-start, entries-fault, entries_turn, entries-small, entries-end}
use Rattle.records.proofs.entries_right.Goals as goal

pub loop-k-init : goal.loop-k-init
loop-k-init c = entries-start _ _ _ _ _

pub returns-then-not-entry_right : goal.returns-then-not-entry_right
returns-then-not-entry_right c =
    let a = c.args in
    let start = ap (λ (n : ℕ). a.r.address + n) c.front_width.ensures in
    entries-fault c.loop-k.invariant (omega arith) c.entry-e.ensures c.entry_right.ensures start (ap not c.if-not-entry_right.true)

pub overflow_add-next : goal.overflow_add-next
overflow_add-next c = omega (arith, entries-small c.loop-k.invariant (omega arith) c.entry-e.ensures c.entry_right.ensures (ap not c.if-not-entry_right.false), c.requires.1)

pub loop-k-preserved : goal.loop-k-preserved
loop-k-preserved c = entries_turn c.loop-k.invariant (omega arith) c.entry-e.ensures c.entry_right.ensures (ap not c.if-not-entry_right.false)

pub returns : goal.returns
returns c =
    let a = c.args in
    let start = ap (λ (n : ℕ). a.r.address + n) c.front_width.ensures in
    entries-end c.loop-k.invariant start (omega arith)
