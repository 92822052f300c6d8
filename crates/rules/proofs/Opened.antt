-- An open session: it shows its parent's bytes with its accepted writes laid on, and a write keeps it so.
use mathlib.Core.Path.{◌≡◌, refl, sym, ap, ◌∙◌}
use mathlib.Core.Bool.{true, false, cond, ◌&&◌}
use mathlib.Core.Logic.{◌⊎◌, inl, inr, ⊎_elim}
use mathlib.Core.List.{List, [], ◌∷◌, ◌++◌}
use Prim.Native.Nat.{ℕ, ◌+◌, ◌*◌, ◌-◌, ◌/◌, ◌≤◌, ◌<◌, max}
use native.Mathlib.Nat.{mul-mod_left}
use native.Mathlib.Omega.{arith}
use lib.Dec.{leb, ltb}
use lib.ListN.{length, get_or, get_or-eq_default}
use borrow.Author.Tests.{le-ltb, leb-true, leb-false, ltb-true, ltb-false}
use Rattle.rules.specs.Bytes.{byte_at, part, laid, tabulate}
use Rattle.rules.specs.Layout.{limit, touch_limit, setting_of, committed_end, record_of}
use Rattle.rules.specs.View.{has, no_entry, page_of, own_pages, session_byte, pages_in, pages_shared}
use Rattle.rules.specs.Session.{Held, touching}
use Rattle.rules.specs.Rows.{read_outside, write_outside, session_wrong, size_below_parent, write_too_far, too_many, no_room}
use Rattle.rules.specs.Calls.{row, ◌then◌, session_rows, revision_index, begin_rows, session_read_rows, session_read, write_rows}
use Rattle.rules.specs.Moments.{Write, Logged, noting}
use Rattle.rules.specs.History.{laid_on, touched_by, Revision, nothing}
use Rattle.rules.specs.declared.Setting.{Setting}
use Rattle.rules.specs.declared.Entry.{Entry}
use Rattle.rules.specs.declared.State.{State}
use Rattle.rules.proofs.Bytes.{part-tabulate, tabulate-same, length_over, byte-below, byte_on, byte_above}
use Rattle.rules.proofs.Rows.{row-clear, then-clear}
use Rattle.rules.proofs.Places.{end-behind}
use Rattle.rules.proofs.Entries.{either}
use Rattle.rules.proofs.Range.{own-length, pages-end-near}
use Rattle.rules.proofs.Same.{Same}
use Rattle.rules.proofs.Headers.{WholeFacts, whole_facts}
use Rattle.rules.proofs.Sessions.{SessionRight, session-right, right-session, or-none, fits_larger, fits-touching}
use Rattle.rules.proofs.Stored.{pages_lie, Stored, stay}
use Rattle.rules.proofs.Holds.{Holds, both_pass, pages_pass, some-page, same-setting, grown-behind, holds-behind}
use Rattle.rules.proofs.Writes.{after_write, byte-written, Leaves, write_leaves}

-- The bytes of a session, by what was noted of it.
abbrev pub noted_bytes : List Revision → Logged → List ℕ
noted_bytes vs l = laid_on (get_or vs l.parent nothing).bytes l.writes

pub record Opened (original : List ℕ) (p : ℕ) (h : List ℕ) (vs : List Revision) (st : State) (l : Logged) : Type 0 where
  pub right : session_wrong (length h) (setting_of h) st ≡ false
  pub parent : st.parent ≡ l.parent
  pub began : st.end ≡ l.began
  pub slots : length st.pages ≡ touch_limit
  pub grown : length (get_or vs l.parent nothing).bytes ≤ st.size
  pub size : st.size ≡ length (noted_bytes vs l)
  pub own : own_pages st ≡ touched_by p [] l.writes
  -- What it shows: below its size, and in its own pages past it too, where they are zero.
  pub shown : (i : ℕ) → (i < st.size) ⊎ (has (own_pages st) (page_of p i) ≡ true)
      → session_byte original h (setting_of h) st (revision_index h (setting_of h) st.parent) i ≡ byte_at (noted_bytes vs l) i

module _ {original : List ℕ} {p : ℕ} {h : List ℕ} {vs : List Revision} {st : State} {l : Logged} (w : Holds original p h vs) (o : Opened original p h vs st l) where
  abbrev s : Setting
  s = setting_of h

  abbrev index : List Entry
  index = revision_index h s st.parent

  abbrev bytes : List ℕ
  bytes = noted_bytes vs l

  pub fits : SessionRight (length h) s st
  fits = session-right (length h) s st o.right

  pub facts : WholeFacts (length h) s
  facts = whole_facts h s w.whole

  pub known : st.parent < length vs
  known = omega (arith, w.counted, fits.parent, fits.count)

  pub parent-stored : Stored original h s st.parent (get_or vs st.parent nothing)
  parent-stored = w.stored st.parent known

  pub parent-size : (record_of h s st.parent).logical ≤ st.size
  parent-size = omega (arith, parent-stored.size, rw (← o.parent) at o.grown)

  session_passes : session_rows h s st ≡ 0
  unfolding session_rows size_below_parent row ◌then◌
  session_passes = rw (o.right, parent-stored.rows, le-ltb st.size (record_of h s st.parent).logical parent-size)

  pub begin_passes : begin_rows st original h ≡ 0
  unfolding begin_rows ◌then◌
  begin_passes = rw (both_pass original h w.header w.lent w.whole, session_passes)

  -- ---- Reading

  module _ (at n : ℕ) (inside : at + n ≤ st.size) where
    read_passes : session_read_rows st original h at n ≡ 0
    unfolding session_read_rows read_outside row ◌then◌
    read_passes = rw (begin_passes, le-ltb st.size (at + n) inside, pages_pass (own_pages st) h s.form.page index parent-stored.sums (pages_shared s.form.page at n))

    read_gives : tabulate n (λ j. session_byte original h s st index (at + j)) ≡ part bytes at n
    read_gives = tabulate-same n _ _ (λ j m. o.shown (at + j) (inl (omega arith))) ∙ sym (part-tabulate bytes at n (omega (arith, o.size)))

  pub session-shows : (at : ℕ) (out : List ℕ) → at + length out ≤ st.size
      → session_read st original h at out ≡ record { number = 0; session = st; bytes = part bytes at (length out) }
  unfolding session_read
  session-shows at out m = rw (read_passes at (length out) m, read_gives at (length out) m)

-- ---- One write more

laid_on_more : (bytes : List ℕ) (ws : List Write) (w : Write) → laid_on bytes (ws ++ (w ∷ [])) ≡ laid (laid_on bytes ws) w.at w.bytes
unfolding laid_on
laid_on_more bytes [] w = refl
laid_on_more bytes (v ∷ ws) w = laid_on_more (laid bytes v.at v.bytes) ws w

touched_by_more : (p : ℕ) (own : List ℕ) (ws : List Write) (w : Write) → touched_by p own (ws ++ (w ∷ [])) ≡ touching (touched_by p own ws) (pages_shared p w.at (length w.bytes))
unfolding touched_by
touched_by_more p own [] w = refl
touched_by_more p own (v ∷ ws) w = touched_by_more p (touching own (pages_shared p v.at (length v.bytes))) ws w

-- A byte of what is laid over others: the write's where it has one.
laid_byte : (xs : List ℕ) (at : ℕ) (ys : List ℕ) → at ≤ length xs → (i : ℕ) → byte_at (laid xs at ys) i ≡ cond (leb at i && ltb i (at + length ys)) (byte_at ys (i - at)) (byte_at xs i)
laid_byte xs at ys starts i = ⊎_elim
    (λ (l : leb at i ≡ true).
    let low : at ≤ i = leb-true at i l in
    ⊎_elim
    (λ (m : ltb i (at + length ys) ≡ true).
    let high : i < at + length ys = ltb-true i (at + length ys) m in
    let e : at + (i - at) ≡ i = omega arith in
    rw (l, m) (rw e at (byte_on xs at ys starts (i - at) (omega arith))))
    (λ (m : ltb i (at + length ys) ≡ false). rw (l, m) (byte_above xs at ys starts i (ltb-false i (at + length ys) m)))
    (either (ltb i (at + length ys))))
    (λ (l : leb at i ≡ false). rw l (byte-below xs at ys starts i (leb-false at i l)))
    (either (leb at i))

-- No byte below the new size is neither the write's nor below the old size, for a write starts at most at the size.
uncovered : (at n size i : ℕ) → leb at i && ltb i (at + n) ≡ false → at ≤ size → i < max size (at + n) → i < size
uncovered at n size i t starts m = ⊎_elim
    (λ (l : leb at i ≡ true). let past = ltb-false i (at + n) (rw l at t) in omega arith)
    (λ (l : leb at i ≡ false). let low = leb-false at i l in omega arith)
    (either (leb at i))

below_or_past : (i n : ℕ) → (i < n) ⊎ (n ≤ i)
below_or_past i n = ⊎_elim (λ (t : ltb i n ≡ true). inl (ltb-true i n t)) (λ (t : ltb i n ≡ false). inr (ltb-false i n t)) (either (ltb i n))

module _ {original : List ℕ} {p : ℕ} {h : List ℕ} {vs : List Revision} {st : State} {l : Logged} (w : Holds original p h vs) (o : Opened original p h vs st l)
    (at : ℕ) (new : List ℕ) (passes : write_rows st original h at (length new) ≡ 0) where
  abbrev set : Setting
  set = setting_of h

  abbrev over : List Entry
  over = revision_index h set st.parent

  abbrev touches : List ℕ
  touches = touching (own_pages st) (pages_shared set.form.page at (length new))

  abbrev result : Held
  result = after_write original h set st over at new

  -- What the rows leave.
  record Room : Type 0 where
    starts : at ≤ st.size
    ends : at + length new ≤ limit
    few : length touches ≤ touch_limit
    room : st.end + length touches * set.form.page ≤ length h

  roomy : Room
  unfolding write_rows write_outside write_too_far too_many no_room
  roomy =
      let a = then-clear _ _ passes in
      let b = then-clear _ _ a.1 in
      let c = then-clear _ _ b.1 in
      let d = then-clear _ _ c.1 in
      let e = then-clear _ _ d.1 in
      record {
        starts = ltb-false _ _ (row-clear 10 _ (omega arith) b.0);
        ends = ltb-false _ _ (row-clear 19 _ (omega arith) c.0);
        few = ltb-false _ _ (or-none _ _ (row-clear 14 _ (omega arith) d.0)).0;
        room = ltb-false _ _ (row-clear 15 _ (omega arith) e.0);
      }

  -- What the parent's index points to lies ahead of the session's pages.
  ahead : (k : ℕ) → k < length over → (get_or over k no_entry).physical + set.form.page ≤ st.end
  ahead k m =
      let lie = pages_lie h set st.parent (parent-stored w o).rows in
      omega (arith, lie.ahead k m, (fits w o).end, end-behind set.form set.address set.size)

  few_slots : st.n ≤ length st.pages
  few_slots = omega (arith, (fits w o).touched, o.slots)

  listed : length touches ≤ length st.pages
  listed = omega (arith, roomy.few, o.slots)

  left : Leaves original h set st over at new (some-page w) few_slots listed roomy.room ahead roomy.starts result
  left = write_leaves original h set st over at new (some-page w) few_slots listed roomy.room ahead roomy.starts

  pub behind : Same 0 (committed_end set) h result.history
  behind = record { long = left.long; bytes = λ i a b. left.ahead i (omega (arith, (fits w o).end)) }

  pub written-holds : Holds original p result.history vs
  written-holds = holds-behind w behind

  -- ---- The session

  number_own : result.session.n ≡ length touches
  number_own = sym (own-length result.session left.filled) ∙ ap length left.own

  still_fits : SessionRight (length result.history) set result.session
  still_fits =
      let f = fits w o in
      let page : ℕ = set.form.page in
      record {
        locked = f.locked;
        end = left.end ∙ f.end;
        count = left.count ∙ f.count;
        few = omega (arith, left.count, f.few);
        parent = omega (arith, left.parent, left.count, f.parent);
        newest = rw (left.parent, left.count) f.newest;
        touched = omega (arith, number_own, roomy.few);
        small = omega (arith, left.size, f.small, roomy.ends);
        room = rw (number_own, left.end, left.long) roomy.room;
        pages = rw (left.own, left.size)
            (fits-touching page (max st.size (at + length new)) (some-page w) (pages_in page at (length new)) (page_of page at) (own_pages st)
            (mul-mod_left (at / page) page) (omega (arith, pages-end-near page at (length new) (some-page w)))
            (fits_larger page st.size (max st.size (at + length new)) (own_pages st) (omega arith) f.pages));
      }

  more : noted_bytes vs (noting l at new) ≡ laid (noted_bytes vs l) at new
  more = laid_on_more (get_or vs l.parent nothing).bytes l.writes (record { at = at; bytes = new })

  begins : at ≤ length (noted_bytes vs l)
  begins = omega (arith, roomy.starts, o.size)

  same_index : revision_index result.history set st.parent ≡ over
  same_index = (stay (grown-behind w behind) st.parent (omega (arith, (fits w o).parent, (fits w o).count)) (parent-stored w o).rows).index

  -- A byte below the new size, and one past it in an own page.
  shown-below : (i : ℕ) → i < max st.size (at + length new) → session_byte original result.history set result.session over i ≡ byte_at (laid (noted_bytes vs l) at new) i
  shown-below i m =
      byte-written original h set st over at new (some-page w) few_slots listed roomy.room ahead roomy.starts i m
      ∙ kept (either (leb at i && ltb i (at + length new)))
      ∙ sym (laid_byte (noted_bytes vs l) at new begins i)
    where
      kept : (leb at i && ltb i (at + length new) ≡ true) ⊎ (leb at i && ltb i (at + length new) ≡ false)
          → cond (leb at i && ltb i (at + length new)) (byte_at new (i - at)) (session_byte original h set st over i)
          ≡ cond (leb at i && ltb i (at + length new)) (byte_at new (i - at)) (byte_at (noted_bytes vs l) i)
      kept = ⊎_elim
          (λ (t : leb at i && ltb i (at + length new) ≡ true). rw t)
          (λ (t : leb at i && ltb i (at + length new) ≡ false). rw t (o.shown i (inl (uncovered at (length new) st.size i t roomy.starts m))))

  shown_past : (i : ℕ) → max st.size (at + length new) ≤ i → has (own_pages result.session) (page_of set.form.page i) ≡ true
      → session_byte original result.history set result.session over i ≡ byte_at (laid (noted_bytes vs l) at new) i
  shown_past i m t =
      let none : byte_at (noted_bytes vs l) i ≡ 0 = get_or-eq_default (noted_bytes vs l) 0 (omega (arith, o.size)) in
      left.zero i m (λ u. o.shown i (inr (rw w.page at u)) ∙ none) t
      ∙ sym (get_or-eq_default (laid (noted_bytes vs l) at new) 0 (rw (length_over (noted_bytes vs l) at new begins) (omega (arith, o.size))))

  pub written-opened : Opened original p result.history vs result.session (noting l at new)
  written-opened =
      let e : setting_of result.history ≡ set = same-setting w behind in
      record {
        right = rw e (right-session (length result.history) set result.session still_fits);
        parent = left.parent ∙ o.parent;
        began = left.end ∙ o.began;
        slots = left.slots ∙ o.slots;
        grown = omega (arith, o.grown, left.size);
        size = left.size ∙ rw (more, length_over (noted_bytes vs l) at new begins, o.size);
        own = left.own ∙ rw (w.page, o.own) (sym (touched_by_more p [] l.writes (record { at = at; bytes = new })));
        shown = λ i side. rw (e, left.parent, same_index, more)
            (⊎_elim (λ (m : i < result.session.size). shown-below i (rw left.size at m))
            (λ (t : has (own_pages result.session) (page_of p i) ≡ true).
            ⊎_elim (λ (m : i < max st.size (at + length new)). shown-below i m)
            (λ (m : max st.size (at + length new) ≤ i). shown_past i m (ap (λ (q : ℕ). has (own_pages result.session) (page_of q i)) w.page ∙ t))
            (below_or_past i (max st.size (at + length new))))
            side);
      }
