-- What a touch leaves, and the bytes laid over the page.
use mathlib.Core.Path.{◌≡◌, refl, ap, ◌∙◌}
use mathlib.Core.Bool.{true, false, cond}
use mathlib.Core.List.{List, [], ◌∷◌, ◌++◌}
use mathlib.Core.Logic.{⊎_elim}
use Prim.Native.Nat.{ℕ, suc, ◌+◌, ◌*◌, ◌-◌, ◌%◌, ◌≤◌, ◌<◌, min, max}
use native.Mathlib.Nat.{mul-le-mul_right, suc-mul}
use native.Mathlib.Omega.{arith}
use lib.ListN.{length, length-set}
use borrow.Author.Tests.{ltb-true, ltb-false}
use Rattle.rules.specs.Bytes.{part, laid, tabulate}
use Rattle.rules.specs.Layout.{touch_limit, entries_in}
use Rattle.rules.specs.View.{place_of, has, own_pages}
use Rattle.rules.specs.Session.{Held, with_page, first_copy, touched, touching, over_page, laid_on_page}
use Rattle.rules.specs.declared.Setting.{Setting}
use Rattle.rules.specs.declared.Index.{Index}
use Rattle.rules.specs.declared.Entry.{Entry}
use Rattle.rules.specs.declared.State.{State}
use Rattle.rules.proofs.Bytes.{length-tabulate, length-laid, length_part}
use Rattle.rules.proofs.Entries.{either, place_snoc, place-within, entries-laid}
use Rattle.rules.proofs.Range.{own-length, own_more, touching_grows}
use Rattle.touching.specs.Pages.{Ready, Shares, Within, kept_byte}
use Rattle.touching.proofs.Copies.{first_copy_lem, own_n, room_new, touch_own}

-- What a touch of page a leaves.
pub record Touched (h : List ℕ) (x : Index) (index : List Entry) (st : State) (a : ℕ) (after : Held) : Type 0 where
  pub end : after.session.end ≡ st.end
  pub size : after.session.size ≡ st.size
  pub full : length after.session.pages ≡ touch_limit
  pub few : after.session.n ≤ touch_limit
  pub own : own_pages after.session ≡ cond (has (own_pages st) a) (own_pages st) (own_pages st ++ (a ∷ []))
  pub there : place_of a (own_pages after.session) < after.session.n
  pub long : length after.history ≡ length h
  pub same : entries_in after.history x ≡ index

module _ {h : List ℕ} {s : Setting} {x : Index} {index : List Entry} {st : State} {a : ℕ} {pages : List ℕ} (w : Ready h s x index st (a ∷ pages)) (o : List ℕ) where
  old : has (own_pages st) a ≡ true → touched o s index a (record { history = h; session = st }) ≡ record { history = h; session = st }
  unfolding touched
  old t = rw t

  fresh : has (own_pages st) a ≡ false
      → touched o s index a (record { history = h; session = st })
      ≡ record { history = laid h (st.end + st.n * s.form.page) (first_copy o s index a (record { history = h; session = st })); session = with_page st a }
  unfolding touched
  fresh t = rw t

  long_copy : length (first_copy o s index a (record { history = h; session = st })) ≡ s.form.page
  unfolding first_copy
  long_copy = length-tabulate s.form.page _

  pub touch_leaves : Touched h x index st a (touched o s index a (record { history = h; session = st }))
  touch_leaves = ⊎_elim
      (λ (t : has (own_pages st) a ≡ true).
      rw (old t)
      (record {
        end = refl;
        size = refl;
        full = w.full;
        few = w.few;
        own = rw t;
        there = omega (arith, own_n w, ltb-true (place_of a (own_pages st)) (length (own_pages st)) t);
        long = refl;
        same = w.same;
      }))
      (λ (t : has (own_pages st) a ≡ false).
      let r = room_new w t in
      let m = own_more st a (omega (arith, w.full, r.0)) in
      let fits : st.end + st.n * s.form.page + length (first_copy o s index a (record { history = h; session = st })) ≤ length h = rw long_copy r.1 in
      rw (fresh t)
      (record {
        end = refl;
        size = refl;
        full = length-set st.pages st.n a ∙ w.full;
        few = omega (arith, r.0);
        own = rw t m;
        there = rw (m, place_snoc a (own_pages st)) (omega (arith, place-within a (own_pages st), own_n w));
        long = length-laid h _ _ fits;
        same = entries-laid x.form h _ _ x.at x.entries fits (omega (arith, w.ahead)) ∙ w.same;
      }))
      (either (has (own_pages st) a))

  pub leaves : {after : Held} → after ≡ touched o s index a (record { history = h; session = st }) → Touched h x index st a after
  leaves e = rw e touch_leaves

-- The page's own place lies in the history.
module _ {h : List ℕ} {s : Setting} {x : Index} {index : List Entry} {st : State} {a : ℕ} {pages : List ℕ} {after : Held}
    (w : Ready h s x index st (a ∷ pages)) (z : Touched h x index st a after) where
  pub still-touches : touching (own_pages after.session) pages ≡ touching (own_pages st) (a ∷ pages)
  unfolding touching
  still-touches = rw z.own

  pub place-room : {place : ℕ} → place ≡ place_of a (own_pages after.session) → after.session.end + place * s.form.page + s.form.page ≤ length h
  place-room {place} e =
      let n = own-length after.session (omega (arith, z.full, z.few)) in
      let g = touching_grows (own_pages after.session) pages in
      let q = ap length still-touches in
      let k : suc place ≤ length (touching (own_pages st) (a ∷ pages)) = omega (arith, z.there) in
      let m : suc place * s.form.page ≤ length (touching (own_pages st) (a ∷ pages)) * s.form.page = mul-le-mul_right s.form.page k in
      omega (arith, w.room, z.end, suc-mul place s.form.page)

-- ---- The bytes that fall into the page

pub over_run : {p a offset skip : ℕ} {bytes run : List ℕ} (h : List ℕ) (to : ℕ) → Within p a offset bytes skip run → laid h (to + skip) run ≡ over_page h to p a offset bytes
unfolding over_page
over_run h to w = rw (w.skips, w.run-is)

-- A page that the write covers has its run from its start on.
pub over_whole : (p a offset : ℕ) (h : List ℕ) (to : ℕ) (bytes : List ℕ) → offset ≤ a → a - offset + p ≤ length bytes
    → laid h (to + 0) (part bytes (a - offset) p) ≡ over_page h to p a offset bytes
over_whole p a offset h to bytes l m =
    let first : max offset a ≡ a = omega arith in
    let some : min (offset + length bytes) (a + p) - max offset a ≡ p = omega arith in
    over_run h to (record { skips = omega arith; run-is = rw (some, first); in-page = rw (length_part bytes (a - offset) p m) (omega arith) })

pub over_fits : {p a offset : ℕ} (bytes : List ℕ) → Shares p a offset (length bytes) → (to room : ℕ) → to + p ≤ room
    → to + (max offset a - a) + length (part bytes (max offset a - offset) (min (offset + length bytes) (a + p) - max offset a)) ≤ room
over_fits {p} {a} {offset} bytes v to room l =
    let i : max offset a - offset + (min (offset + length bytes) (a + p) - max offset a) ≤ length bytes = omega (arith, v.below, v.above) in
    rw (length_part bytes (max offset a - offset) (min (offset + length bytes) (a + p) - max offset a) i) (omega (arith, v.below, v.above))

module _ {h : List ℕ} {s : Setting} {x : Index} {index : List Entry} {st : State} {a : ℕ} {pages : List ℕ} (w : Ready h s x index st (a ∷ pages)) (o : List ℕ) (offset : ℕ) (bytes : List ℕ) where
  pub own-laid : {place : ℕ} {y : List ℕ} → place ≡ place_of a (own_pages st) → place < st.n → y ≡ over_page h (st.end + place * s.form.page) s.form.page a offset bytes
      → ◌≡◌ {A = Held} (record { history = y; session = st }) (laid_on_page s offset bytes a (touched o s index a (record { history = h; session = st })))
  unfolding laid_on_page
  own-laid e l q = rw (← touch_own w o e l, q, e)

  new_place : has (own_pages st) a ≡ false → place_of a (own_pages (with_page st a)) ≡ st.n
  new_place t =
      rw (own_more st a (omega (arith, w.full, (room_new w t).0)))
      (place_snoc a (own_pages st) ∙ omega (arith, own_n w, place-within a (own_pages st), ltb-false (place_of a (own_pages st)) (length (own_pages st)) t))

  pub new-laid : {y : List ℕ} → a % s.form.page ≡ 0 → has (own_pages st) a ≡ false
      → y ≡ over_page (laid h (st.end + st.n * s.form.page) (tabulate s.form.page (kept_byte o h index a st.size))) (st.end + st.n * s.form.page) s.form.page a offset bytes
      → ◌≡◌ {A = Held} (record { history = y; session = with_page st a }) (laid_on_page s offset bytes a (touched o s index a (record { history = h; session = st })))
  unfolding laid_on_page
  new-laid m t q = rw (fresh w o t, q, first_copy_lem o s index a (record { history = h; session = st }) m t, new_place t)
