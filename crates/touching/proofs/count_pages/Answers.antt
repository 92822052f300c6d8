-- After k pages both counts are those that these pages would leave.
use mathlib.Core.Path.{◌≡◌, refl, sym, ◌∙◌}
use mathlib.Core.Bool.{false}
use Prim.Native.Nat.{ℕ, ◌+◌, ◌*◌, ◌≤◌}
use native.Mathlib.Nat.{one-mul}
use native.Mathlib.Omega.{arith}
use borrow.Author.Rules.{rules}
use Rattle.rules.specs.Layout.{entries_in}
use Rattle.rules.specs.View.{has, page_of}
use Rattle.layout.specs.Paged.{farthest}
use Rattle.view.proofs.Pages.{range-room}
use Rattle.touching.specs.Pages.{missing}
use Rattle.touching.proofs.Counting.{Counting, counting-start, counting_own, counting_run, counting-room, counted_past}
use Rattle.touching.proofs.count_pages.Goals as goal
use Rattle.touching.proofs.count_pages.Goals.{After-new_pages-some, At-loop-k, Else-is_some}

-- Pages of the write end where a sum does not wrap.
room : (c : At-loop-k) (j : ℕ) → c.loop-k.k + j ≤ c.pages_in-m.result → c.loop-k.a + j * c.args.x.form.page ≤ farthest
room c j l =
    let p = c.requires.before_value.2 in
    omega (arith, counting-room c.loop-k.invariant j l, range-room _ c.args.offset c.args.len c.pages_in-m.ensures c.requires.before_value.3 p.least p.most)

none : (c : Else-is_some)
    → has c.args.pages.now c.loop-k.a ≡ false
none c = sym (c.is_some.ensures ∙ c.own_place.ensures.found) ∙ c.if-is_some.false

-- The run ends within the write's pages, and with at most one page too many.
run : (c : After-new_pages-some)
    → let a = c.args in
    let l = c.loop-k in
    let index = entries_in a.history.now a.x in
    let some = c.new_pages-some.result in
    let p = a.x.form.page in
    Counting index a.pages.now p (page_of p a.offset) c.pages_in-m.result (l.a + some * p) (l.k + some) (l.touched + some) (l.merged + missing index p l.a some)
run c =
    let n = c.new_pages-some.ensures in
    let most = c.min-most.ensures in
    counting_run _ _ _ _ c.loop-k.invariant c.requires.entries_in_bounds.1 (omega (arith, c.requires.before_value.2.least)) c.new_pages-some.result (omega (arith, most, n.1, c.loop-k-test.true)) (omega (arith, most, n.1, c.if-touched.true)) n.2

pub loop-k-init : goal.loop-k-init
loop-k-init c =
    let b = c.requires.before_value in
    counting-start _ _ _ _ _ refl c.requires.entries_in_bounds.2 b.0 b.1

pub new_pages-some-requires : goal.new_pages-some-requires
new_pages-some-requires c =
    let most = c.min-most.ensures in
    (none (goal.at.new_pages-some-requires c).Else-is_some, omega (arith, most, c.loop-k-test.true, c.if-touched.true), room (goal.at.new_pages-some-requires c).At-loop-k c.min-most.result (omega (arith, most, c.loop-k-test.true)))

pub missing_pages-merged-requires : goal.missing_pages-merged-requires
missing_pages-merged-requires c =
    (c.requires.entries_in_bounds.0, c.requires.entries_in_bounds.1, c.requires.before_value.2, room (goal.at.missing_pages-merged-requires c).At-loop-k c.new_pages-some.result (run (goal.at.missing_pages-merged-requires c).After-new_pages-some).within)

pub overflow_add-merged : goal.overflow_add-merged
overflow_add-merged c = let r = run (goal.at.overflow_add-merged c).After-new_pages-some in omega (arith, c.missing_pages-merged.ensures, r.less, r.few)

pub overflow_add-a-else-is_some : goal.overflow_add-a-else-is_some
overflow_add-a-else-is_some c = omega (arith, room (goal.at.overflow_add-a-else-is_some c).At-loop-k c.new_pages-some.result (run (goal.at.overflow_add-a-else-is_some c).After-new_pages-some).within)

pub overflow_add-a : goal.overflow_add-a
overflow_add-a c = omega (arith, room (goal.at.overflow_add-a c).At-loop-k 1 (omega (arith, c.loop-k-test.true)), one-mul c.args.x.form.page)

pub loop-k-preserved-then-is_some : goal.loop-k-preserved-then-is_some
loop-k-preserved-then-is_some c =
    counting_own _ _ _ _ c.loop-k.invariant c.loop-k-test.true c.requires.entries_in_bounds.1 (omega (arith, c.requires.before_value.2.least)) (sym (c.is_some.ensures ∙ c.own_place.ensures.found) ∙ c.if-is_some.true)

pub loop-k-preserved : goal.loop-k-preserved
loop-k-preserved c = rw c.missing_pages-merged.ensures (run (goal.at.loop-k-preserved c).After-new_pages-some)

pub returns-else-touched : goal.returns-else-touched
returns-else-touched c = rw (← c.pages_in-m.ensures) (counted_past c.loop-k.invariant (search rules))
