-- The bytes done are the revision's, and the walk stands at the next stored page.
use Prim.Native.Nat.{◌+◌, ◌<◌}
use native.Mathlib.Omega.{arith}
use Rattle.view.proofs.Pages.{page_size, entry-room}
use Rattle.view.proofs.Shown.{shown-length, shown-end}
use Rattle.view.proofs.Walk.{walked_start, hit-page, walked_hit, walked_run}
use Rattle.view.proofs.put_revision.Goals as goal
use Rattle.view.proofs.put_revision.Goals.{Then-next-at}

-- The next stored page is the one that the next byte lies in.
hit : (c : Then-next-at) → let l = c.loop-done in let a = c.args in (l.place < a.v.index.entries) × (a.from + l.done < c.next_stored-next.result + page_size a.v)
hit c = hit-page c.requires.0 c.loop-done.invariant c.loop-done-test.true c.next_stored-next.ensures c.if-next-at.true (omega arith)

pub loop-done-init : goal.loop-done-init
loop-done-init c = walked_start _ c.requires.0 c.args.from _ c.place_from-place.ensures

pub overflow_sub-page : goal.overflow_sub-page
overflow_sub-page c = omega (arith, hit (goal.at.overflow_sub-page c).Then-next-at)

pub overflow_add-e : goal.overflow_add-e
overflow_add-e c =
    let near = hit (goal.at.overflow_add-e c).Then-next-at in
    omega (arith, near.1, entry-room _ c.args.v c.requires.0 _ near.0 c.entry-e.ensures, c.requires.0.short)

pub put_stored-requires : goal.put_stored-requires
put_stored-requires c =
    let long = shown-length c.loop-done.invariant.so_far in
    let near = hit (goal.at.put_stored-requires c).Then-next-at in
    (omega arith, omega (arith, entry-room _ c.args.v c.requires.0 _ near.0 c.entry-e.ensures))

pub loop-done-smaller-then-next-at : goal.loop-done-smaller-then-next-at
loop-done-smaller-then-next-at c = omega (arith, hit (goal.at.loop-done-smaller-then-next-at c).Then-next-at)

pub loop-done-preserved-then-next-at : goal.loop-done-preserved-then-next-at
loop-done-preserved-then-next-at c =
    walked_hit c.requires.0 c.loop-done.invariant c.loop-done-test.true c.next_stored-next.ensures c.if-next-at.true (omega arith) c.entry-e.ensures c.min-some.ensures c.put_stored.ensures

pub loop-done-preserved : goal.loop-done-preserved
loop-done-preserved c =
    walked_run c.requires.0 c.loop-done.invariant c.loop-done-test.true c.next_stored-next.ensures c.if-next-at.false c.min-some-else-next-at.ensures c.put_original.ensures

pub returns : goal.returns
returns c = shown-end c.loop-done.invariant.so_far c.loop-done-test.false
