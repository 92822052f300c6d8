-- The pages passed are counted unless an entry is theirs, and each turn passes pages, or an entry, or both.
use mathlib.Core.Path.{◌≡◌}
use Prim.Native.Nat.{◌+◌, ◌≤◌, ◌<◌}
use native.Mathlib.Omega.{arith}
use lib.ListN.{length}
use Rattle.rules.specs.Layout.{entries_in}
use Rattle.rules.specs.View.{logicals}
use Rattle.rules.proofs.Entries.{length-logicals_entries}
use Rattle.touching.proofs.Counting.{ahead, page-ahead, ahead_within, passing-start, passing_rest, passing-end, passing-ahead, passing-at}
use Rattle.touching.proofs.missing_pages.Goals as goal
use Rattle.touching.proofs.missing_pages.Goals.{Start, Then-here-next, then-loop-k-test+else-place-x, else-loop-k-test, then-loop-k-test+then-place-x+then-end-next}

long : (c : Start) → length (logicals (entries_in c.args.history.now c.args.x)) ≡ c.args.x.entries
long c = let x = c.args.x in length-logicals_entries x.form c.args.history.now x.at x.entries

-- The next entry lies ahead of their end, so the pages ahead of it are some of them.
within : (c : Then-here-next)
    → let a = c.args in
    c.loop-k.k + ahead a.x.form.page a.first c.loop-k.k c.logical-next.result c.if-here-next.true ≤ a.m
within c = let a = c.args in ahead_within a.x.form.page a.first _ _ c.if-here-next.true a.m c.if-end-next.false

pub loop-k-init : goal.loop-k-init
loop-k-init c = passing-start _ _ _ _ c.place_from-place.ensures

pub loop-k-preserved-then-here-next : goal.loop-k-preserved-then-here-next
loop-k-preserved-then-here-next c =
    passing-ahead c.loop-k.invariant c.requires.1 _ (within (goal.at.loop-k-preserved-then-here-next c).Then-here-next)
    (λ i l. omega (arith, c.logical-next.ensures, page-ahead c.args.x.form.page c.args.first c.loop-k.k c.logical-next.result c.if-here-next.true i l))

pub loop-k-preserved : goal.loop-k-preserved
loop-k-preserved c =
    passing-at c.loop-k.invariant c.requires.1 (rw (long (goal.at.loop-k-preserved c).Start) c.if-place-x.true) (omega (arith, c.requires.2.least)) c.loop-k-test.true (omega (arith, c.logical-next.ensures, c.if-next-here.false, c.if-here-next.false))

pub returns : goal.returns
returns c =
    let l = c.loop-k in
    let i = l.invariant in
    let pos : 0 < c.args.x.form.page = omega (arith, c.requires.2.least) in
    elim c.loop-k-test.branch [
      | then-loop-k-test+else-place-x w ↦ passing_rest i c.requires.1 pos (λ h. absurd (omega (arith, long (goal.at.returns c).Start, w.if-place-x.false)))
      | else-loop-k-test w ↦ passing-end i w.loop-k-test.false
      | then-loop-k-test+then-place-x+then-end-next w ↦ passing_rest i c.requires.1 pos (λ h. omega (arith, w.logical-next.ensures, w.if-end-next.true))
    ]
