-- After k pages history and session are those of the rule, and the rule's other pages are still to come.
use mathlib.Core.Path.{◌≡◌, sym}
use mathlib.Core.Bool.{false}
use mathlib.Core.List.{List}
use Prim.Native.Nat.{ℕ, ◌+◌, ◌*◌, ◌≤◌, ◌<◌}
use native.Mathlib.Omega.{arith}
use lib.ListN.{length, take}
use Rattle.rules.specs.declared.Setting.{Setting}
use Rattle.rules.specs.declared.Index.{Index}
use Rattle.rules.specs.declared.Entry.{Entry}
use Rattle.rules.specs.declared.State.{State}
use Rattle.rules.specs.Layout.{touch_limit, entries_in}
use Rattle.rules.specs.View.{has, own_pages}
use Rattle.touching.specs.Pages.{Ready, Shares, AllNew}
use Rattle.touching.proofs.Copies.{room_new, ready_source}
use Rattle.touching.proofs.Loop.{Fits, writing_start, writing_one, writing_shares, writing_kept, writing-fresh, writing-room, writing-over, writing_new, writing_fits, writing-stored, writing-end}
use Rattle.touching.proofs.Write.put.Goals as goal
use Rattle.touching.proofs.Write.put.Goals.{After-new_pages-some, In_default, In-loop-k, In-Some}

full : {history : List ℕ} {s : Setting} {x : Index} {index : List Entry} {st : State} {pages : List ℕ} → Ready history s x index st pages → st.n ≤ length st.pages
full w = omega (arith, w.full, w.few)

-- The next page shares a byte with the write.
shares : (c : In-loop-k)
    → let w = c.args.self.now in
    Shares w.setting.form.page c.loop-k.a w.offset (length w.bytes.now)
shares c = writing_shares _ _ _ _ _ _ c.loop-k.invariant c.loop-k-test.true c.requires.bytes_bound

-- It is one of the session's own, and there is room;
there : (c : In-Some)
    → let l = c.loop-k in
    let page = c.args.self.now.setting.form.page in
    l.t.end + c.in-Some.place * page + page ≤ length l.history
there c = writing-room _ _ _ _ _ _ c.loop-k.invariant c.loop-k-test.true (full c.requires.ready) c.in-Some.ensures.place.0 c.in-Some.ensures.place.1

-- or it is none of them, and there is room for one more.
missing : (c : In_default)
    → has (own_pages c.args.st) c.loop-k.a ≡ false
missing c =
    let kept : take c.args.st.n c.loop-k.t.pages ≡ own_pages c.args.st = writing_kept _ _ _ _ _ _ c.loop-k.invariant c.loop-k-test.true (full c.requires.ready) in
    let absent : has (take c.args.st.n c.loop-k.t.pages) c.loop-k.a ≡ false = sym c.in_default.ensures.found in
    rw kept at absent

fresh : (c : In_default) → let l = c.loop-k in has (own_pages l.t) l.a ≡ false
fresh c = writing-fresh _ _ _ _ _ _ c.loop-k.invariant c.loop-k-test.true (missing c)

room : (c : In_default)
    → let l = c.loop-k in
    let page = c.args.self.now.setting.form.page in
    (l.t.n < touch_limit) × (l.t.end + l.t.n * page + page ≤ length l.history)
room c = room_new (writing_one _ _ _ _ _ _ c.loop-k.invariant c.loop-k-test.true) (fresh c)

-- The pages of a run are new, and have room too.
new : (c : After-new_pages-some)
    → AllNew (own_pages c.args.st) c.args.self.now.setting.form.page c.loop-k.a c.new_pages-some.result
new c =
    let kept : take c.args.st.n c.loop-k.t.pages ≡ own_pages c.args.st = writing_kept _ _ _ _ _ _ c.loop-k.invariant c.loop-k-test.true (full c.requires.ready) in
    rw kept at c.new_pages-some.ensures.2

fits : (c : After-new_pages-some)
    → let w = c.args.self.now in
    let l = c.loop-k in
    Fits w.original.now w.setting w.index (entries_in c.args.history.now w.index) w.offset w.bytes.now c.pages_in-m.result l.history l.t l.a l.k c.new_pages-some.result
fits c =
    let n = c.new_pages-some.ensures in
    writing_fits _ _ _ _ _ _ c.loop-k.invariant c.requires.bytes_bound c.covered-whole.ensures n.0 n.1 (new c)

pub loop-k-init : goal.loop-k-init
loop-k-init c = writing_start _ _ _ _ _ _ _ c.pages_in-m.ensures c.requires.ready

pub overflow_add-a : goal.overflow_add-a
overflow_add-a c = let v = shares (goal.at.overflow_add-a c).In-loop-k in omega (arith, v.below, v.short, v.small)

pub invariant_of-p : goal.invariant_of-p
invariant_of-p c = record { shares = shares (goal.at.invariant_of-p c).In-loop-k }

pub invariant_of-p-in_default : goal.invariant_of-p-in_default
invariant_of-p-in_default c = record { shares = shares (goal.at.invariant_of-p-in_default c).In-loop-k }

pub put_own-requires : goal.put_own-requires
put_own-requires c = there (goal.at.put_own-requires c).In-Some

pub loop-k-preserved-in-Some : goal.loop-k-preserved-in-Some
loop-k-preserved-in-Some c =
    writing-over _ _ _ _ _ _ c.loop-k.invariant c.loop-k-test.true c.requires.bytes_bound (full c.requires.ready) c.in-Some.ensures.place.0 c.in-Some.ensures.place.1 c.put_own.ensures

pub put_around-requires : goal.put_around-requires
put_around-requires c =
    ready_source (writing_one _ _ _ _ _ _ c.loop-k.invariant c.loop-k-test.true) (fresh (goal.at.put_around-requires c).In_default)

pub bounds-t-n : goal.bounds-t-n
bounds-t-n c =
    omega (arith, room (goal.at.bounds-t-n c).In_default, c.loop-k.invariant.ready.full)

pub loop-k-preserved-then-whole-eq0 : goal.loop-k-preserved-then-whole-eq0
loop-k-preserved-then-whole-eq0 c =
    writing_new _ _ _ _ _ _ c.loop-k.invariant c.loop-k-test.true c.requires.bytes_bound (missing (goal.at.loop-k-preserved-then-whole-eq0 c).In_default) c.put_around.ensures

pub put_run-requires : goal.put_run-requires
put_run-requires c = (fits (goal.at.put_run-requires c).After-new_pages-some).in-history

pub slice_bounds-note_pages-end : goal.slice_bounds-note_pages-end
slice_bounds-note_pages-end c =
    omega (arith, (fits (goal.at.slice_bounds-note_pages-end c).After-new_pages-some).in-session, c.loop-k.invariant.ready.full)

pub loop-k-preserved : goal.loop-k-preserved
loop-k-preserved c =
    let n = c.new_pages-some.ensures in
    writing-stored _ _ _ _ _ _ c.loop-k.invariant c.requires.bytes_bound c.covered-whole.ensures n.0 n.1 (new (goal.at.loop-k-preserved c).After-new_pages-some) c.put_run.ensures c.note_pages.ensures

pub returns : goal.returns
returns c = writing-end _ _ _ _ _ _ c.loop-k.invariant c.loop-k-test.false
