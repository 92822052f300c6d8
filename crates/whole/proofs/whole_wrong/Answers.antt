-- A wrong count or size is a fault; else the row goes by the start and the checksums.
use Prim.Native.Nat.{◌+◌, ◌≤◌}
use native.Mathlib.Omega.{arith}
use lib.ListN.{length}
use Rattle.rules.proofs.Places.{end-behind}
use Rattle.whole.proofs.Whole.{whole-fault, whole_parts}
use Rattle.whole.proofs.whole_wrong.Goals as goal
use Rattle.whole.proofs.whole_wrong.Goals.{Start}

-- The whole history ends within the buffer, with all of its bytes.
inside : (c : Start) → c.args.s.address + c.args.s.size ≤ length c.args.history.now
inside c = let s = c.args.s in omega (arith, c.requires.0.ends, end-behind s.form s.address s.size)

pub returns-then-s-gt-REVISIONS : goal.returns-then-s-gt-REVISIONS
returns-then-s-gt-REVISIONS c = whole-fault _ c.args.s (λ w. omega (arith, w.few))

pub returns-then-s-whole_size : goal.returns-then-s-whole_size
returns-then-s-whole_size c = whole-fault _ c.args.s (λ w. omega (arith, w.sized, c.whole_size.ensures))

pub starts-requires : goal.starts-requires
starts-requires c = omega (arith, inside (goal.at.starts-requires c).Start, c.whole_size.ensures)

pub overflow_add-at : goal.overflow_add-at
overflow_add-at c = omega (arith, inside (goal.at.overflow_add-at c).Start, c.requires.1, c.whole_size.ensures)

pub sum_stands-requires : goal.sum_stands-requires
sum_stands-requires c =
    let w = c.whole_size.ensures in
    let i = inside (goal.at.sum_stands-requires c).Start in
    (omega (arith, i), omega (arith, i, w), c.requires.1)

pub overflow_add-at-2 : goal.overflow_add-at-2
overflow_add-at-2 c = omega (arith, inside (goal.at.overflow_add-at-2 c).Start, c.requires.1, c.whole_size.ensures)

pub sums_stand-requires : goal.sums_stand-requires
sums_stand-requires c = (omega (arith, inside (goal.at.sums_stand-requires c).Start, c.whole_size.ensures), c.requires.1, omega arith, omega arith)

pub returns : goal.returns
returns c =
    let s = c.args.s in
    let w = c.whole_size.ensures in
    let lies = c.requires.0 in
    whole_parts _ s _ (record { behind = lies.behind; ends = lies.ends; sized = omega (arith, w); few = omega arith }) (omega (arith, w)) c.starts.ensures c.sum_stands.ensures c.sums_stand.ensures
