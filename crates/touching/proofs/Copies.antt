-- What a first touch copies, and the bytes of a write laid between it.
use mathlib.Core.Path.{◌≡◌, sym, ap, ◌∙◌}
use mathlib.Core.Bool.{true, false}
use mathlib.Core.List.{List, [], ◌∷◌, ◌++◌, append-nil}
use mathlib.Core.Logic.{⊎_elim}
use Prim.Native.Nat.{ℕ, suc, ◌+◌, ◌*◌, ◌-◌, ◌%◌, ◌≤◌, ◌<◌, min}
use native.Mathlib.Nat.{zero-add, add_assoc, mul-le-mul_right, suc-mul}
use native.Mathlib.Omega.{arith}
use lib.ListN.{length, replicate, length-append}
use borrow.Author.Tests.{lt-ltb, le-ltb, ltb-true}
use Rattle.rules.specs.Bytes.{part, laid, tabulate}
use Rattle.rules.specs.Layout.{touch_limit, entries_width, entry_at, entries_in}
use Rattle.rules.specs.View.{place_of, has, logicals, has_page, entry_of, revision_byte, own_pages, shown_byte}
use Rattle.rules.specs.Session.{Held, first_copy, touched, touching}
use Rattle.rules.specs.declared.Setting.{Setting}
use Rattle.rules.specs.declared.Index.{Index}
use Rattle.rules.specs.declared.Entry.{Entry}
use Rattle.rules.specs.declared.State.{State}
use Rattle.rules.proofs.Bytes.{
  laid_then,
  length-laid,
  length-tabulate,
  tabulate-append,
  tabulate-same,
  part-tabulate,
  tabulate_zeros,
  laid_middle,
  byte-below,
}
use Rattle.rules.proofs.Entries.{either, entry_entries, length-logicals_entries, entries-laid}
use Rattle.rules.proofs.Range.{page-at, page-there, entry-there, own-length, touching_new}
use Rattle.view.specs.Seen.{original_byte}
use Rattle.touching.specs.Pages.{Source, Ready, page_byte, kept_byte}

-- ---- One page's bytes

module _ (o h : List ℕ) (x : Index) (to a from n : ℕ) {y : List ℕ} where
  pub page-stored : {place : ℕ} {e : Entry} → place ≡ place_of a (logicals (entries_in h x)) → place < x.entries → e ≡ entry_at x.form h (x.at + entries_width x.form place)
      → e.physical + from + n ≤ length h
      → y ≡ laid h to (part h (e.physical + from) n)
      → y ≡ laid h to (tabulate n (λ j. page_byte o h (entries_in h x) a (from + j)))
  unfolding page_byte
  page-stored {e = e} ep l q room f =
      let g : e ≡ entry_of (entries_in h x) a = q ∙ entry-there h x a ep l in
      f ∙ ap (laid h to) (part-tabulate h (e.physical + from) n room ∙ tabulate-same n _ _ (λ j k. rw (page-there h x a ep l, ← g, add_assoc e.physical from j)))

  pub page-original : false ≡ has_page (entries_in h x) a → y ≡ laid h to (tabulate n (original_byte o (a + from))) → y ≡ laid h to (tabulate n (λ j. page_byte o h (entries_in h x) a (from + j)))
  unfolding page_byte
  page-original none f = f ∙ ap (laid h to) (tabulate-same n _ _ (λ j k. rw (← none, add_assoc a from j)))

pub source_entry : {h : List ℕ} {x : Index} {to from n : ℕ} → Source h x to from n → {place : ℕ} {e : Entry} → place < x.entries
    → e ≡ entry_at x.form h (x.at + entries_width x.form place)
    → e.physical + (from + n) ≤ to
source_entry {h} {x} w {place} l q = rw (q ∙ sym (entry_entries x.form h x.at x.entries place l)) (w.stored place l)

-- ---- Kept bytes, and zeros behind

module _ (o h : List ℕ) (index : List Entry) (a size from n : ℕ) {keep : ℕ} (ek : keep ≡ min n (size - (a + from))) where
  kept-below : (j : ℕ) → j < keep → page_byte o h index a (from + j) ≡ kept_byte o h index a size (from + j)
  unfolding kept_byte
  kept-below j l = rw (lt-ltb (a + (from + j)) size (omega arith))

  kept_past : (j : ℕ) → j < n - keep → kept_byte o h index a size (from + (keep + j)) ≡ 0
  unfolding kept_byte
  kept_past j l = rw (le-ltb (a + (from + (keep + j))) size (omega arith))

  pub copied : (to : ℕ) (x0 : List ℕ) {x1 x2 : List ℕ} → to + n ≤ length x0
      → x1 ≡ laid x0 to (tabulate keep (λ j. page_byte o h index a (from + j))) → x2 ≡ laid x1 (to + keep) (replicate (n - keep) 0)
      → x2 ≡ laid x0 to (tabulate n (λ j. kept_byte o h index a size (from + j)))
  copied to x0 {x1} {x2} room e f =
      let c : keep + (n - keep) ≡ n = omega arith in
      let g : tabulate n (λ j. kept_byte o h index a size (from + j))
      ≡ tabulate keep (λ j. kept_byte o h index a size (from + j)) ++ tabulate (n - keep) (λ j. kept_byte o h index a size (from + (keep + j))) =
      ap (λ (i : ℕ). tabulate i (λ j. kept_byte o h index a size (from + j))) (sym c) ∙ tabulate-append keep (n - keep) (λ j. kept_byte o h index a size (from + j)) in
      laid_then x0 x1 x2 (tabulate keep (λ j. kept_byte o h index a size (from + j))) (tabulate (n - keep) (λ j. kept_byte o h index a size (from + (keep + j)))) to (to + keep)
      (e ∙ ap (laid x0 to) (tabulate-same keep _ _ kept-below)) (f ∙ ap (laid x1 (to + keep)) (tabulate_zeros _ (n - keep) kept_past))
      (rw (length-tabulate keep (λ j. kept_byte o h index a size (from + j)))) (omega arith)
      ∙ ap (laid x0 to) (sym g)

-- ---- The first copy

pub first_copy_lem : (o : List ℕ) (s : Setting) (index : List Entry) (a : ℕ) (held : Held) → a % s.form.page ≡ 0 → has (own_pages held.session) a ≡ false
    → tabulate s.form.page (kept_byte o held.history index a held.session.size) ≡ first_copy o s index a held
unfolding kept_byte page_byte first_copy shown_byte revision_byte
first_copy_lem o s index a held m n = tabulate-same s.form.page _ _ (λ j l. let z = page-at s.form.page a j m l in rw (z.0, z.1, n))

-- ---- A new page

module _ (o : List ℕ) {h : List ℕ} {x : Index} {to p : ℕ} (a size : ℕ) (w : Source h x to 0 p) where
  abbrev index : List Entry
  index = entries_in h x

  -- What is laid behind the stored pages does not change them.
  page-same : (ys : List ℕ) → to + length ys ≤ length h → (j : ℕ) → j < p → page_byte o (laid h to ys) index a j ≡ page_byte o h index a j
  unfolding page_byte
  page-same ys fits j l = ⊎_elim
      (λ (t : has_page index a ≡ true).
      let k : place_of a (logicals index) < x.entries = rw (length-logicals_entries x.form h x.at x.entries) at (ltb-true (place_of a (logicals index)) (length (logicals index)) t) in
      rw t (byte-below h to ys (omega arith) ((entry_of index a).physical + j) (omega (arith, w.stored (place_of a (logicals index)) k))))
      (λ (t : has_page index a ≡ false). rw t)
      (either (has_page index a))

  -- A run that covers the page leaves nothing of the copy.
  pub page_covered : (run : List ℕ) {x1 : List ℕ} → length run ≡ p → x1 ≡ laid h to run → x1 ≡ laid (laid h to (tabulate p (kept_byte o h index a size))) (to + 0) run
  page_covered run q e =
      let copy : List ℕ = tabulate p (kept_byte o h index a size) in
      let long : length copy ≡ p = length-tabulate p (kept_byte o h index a size) in
      e ∙ sym (rw (append-nil copy, append-nil run) at (laid_middle h to [] copy [] run (long ∙ sym q) (rw (append-nil copy, long) w.room)))

  module _ (skip behind : ℕ) (run : List ℕ) {x1 x2 : List ℕ} (q : skip + length run ≡ behind) (l : behind ≤ p)
      (e1 : x1 ≡ laid h to (tabulate skip (λ j. kept_byte o h index a size (0 + j)))) (e2 : x2 ≡ laid x1 (to + skip) run) where
    abbrev kept : ℕ → ℕ
    kept j = kept_byte o h index a size j

    abbrev ahead : List ℕ
    ahead = tabulate skip kept ++ run

    ahead_long : length ahead ≡ behind
    ahead_long = rw (length-append, length-tabulate skip kept) q

    ahead_fits : to + length ahead ≤ length h
    ahead_fits = rw ahead_long (omega (arith, w.room))

    ahead-laid : x2 ≡ laid h to ahead
    ahead-laid =
        laid_then h x1 x2 (tabulate skip kept) run to (to + skip)
        (e1 ∙ ap (laid h to) (tabulate-same skip _ _ (λ j k. rw zero-add))) e2 (rw (length-tabulate skip kept)) (omega (arith, w.room))

    index_same : entries_in x2 x ≡ index
    index_same = rw ahead-laid (entries-laid x.form h to ahead x.at x.entries ahead_fits w.ahead)

    pub source-behind : Source x2 x (to + behind) behind (p - behind)
    source-behind = record {
      room = rw (ahead-laid, length-laid h to ahead ahead_fits) (omega (arith, w.room));
      ahead = omega (arith, w.ahead);
      rising = rw index_same w.rising;
      stored = λ k m. rw index_same (omega (arith, w.stored k m));
    }

    abbrev tail : List ℕ
    tail = tabulate (p - behind) (λ j. kept (behind + j))

    abbrev old : List ℕ
    old = tabulate (length run) (λ j. kept (skip + j))

    whole : tabulate p kept ≡ tabulate skip kept ++ old ++ tail
    whole =
        let c : behind + (p - behind) ≡ p = omega arith in
        ap (λ (i : ℕ). tabulate i kept) (sym c) ∙ tabulate-append behind (p - behind) kept
        ∙ ap (λ (l : List ℕ). l ++ tail) (ap (λ (i : ℕ). tabulate i kept) (sym q) ∙ tabulate-append skip (length run) kept)

    tail-same : tabulate (p - behind) (λ j. kept_byte o x2 (entries_in x2 x) a size (behind + j)) ≡ tail
    unfolding kept_byte
    tail-same = tabulate-same (p - behind) _ _ (λ j k. rw (index_same, ahead-laid, page-same ahead ahead_fits (behind + j) (omega arith)))

    pub page-laid : {x3 : List ℕ} → x3 ≡ laid x2 (to + behind) (tabulate (p - behind) (λ j. kept_byte o x2 (entries_in x2 x) a size (behind + j)))
        → x3 ≡ laid (laid h to (tabulate p (kept_byte o h index a size))) (to + skip) run
    page-laid {x3} e3 =
        let fits : to + length (tabulate skip kept ++ old ++ tail) ≤ length h = rw (← whole, length-tabulate p kept) w.room in
        let m : laid (laid h to (tabulate skip kept ++ old ++ tail)) (to + length (tabulate skip kept)) run ≡ laid h to (tabulate skip kept ++ run ++ tail) =
        laid_middle h to (tabulate skip kept) old tail run (length-tabulate (length run) _) fits in
        laid_then h x2 x3 ahead tail to (to + behind) ahead-laid (e3 ∙ ap (laid x2 (to + behind)) tail-same) (rw ahead_long) (omega (arith, w.room))
        ∙ sym (rw whole (rw (length-tabulate skip kept) at m))

-- ---- A touch

module _ {h : List ℕ} {s : Setting} {x : Index} {index : List Entry} {st : State} {a : ℕ} {pages : List ℕ} (w : Ready h s x index st (a ∷ pages)) where
  pub own_n : length (own_pages st) ≡ st.n
  own_n = own-length st (omega (arith, w.full, w.few))

  -- A page that is not there yet has room.
  pub room_new : has (own_pages st) a ≡ false → (st.n < touch_limit) × (st.end + st.n * s.form.page + s.form.page ≤ length h)
  room_new t =
      let l = touching_new (own_pages st) a pages t in
      let k : suc st.n ≤ length (touching (own_pages st) (a ∷ pages)) = omega (arith, own_n) in
      let m : suc st.n * s.form.page ≤ length (touching (own_pages st) (a ∷ pages)) * s.form.page = mul-le-mul_right s.form.page k in
      (omega (arith, w.touches), omega (arith, w.room, suc-mul st.n s.form.page))

  pub ready_source : has (own_pages st) a ≡ false → Source h x (st.end + st.n * s.form.page) 0 s.form.page
  ready_source t = record {
    room = (room_new t).1;
    ahead = omega (arith, w.ahead);
    rising = rw w.same w.rising;
    stored = λ k l. rw w.same (omega (arith, w.stored k l));
  }

  pub touch_own : (o : List ℕ) {place : ℕ} → place ≡ place_of a (own_pages st) → place < st.n
      → ◌≡◌ {A = Held} (record { history = h; session = st }) (touched o s index a (record { history = h; session = st }))
  unfolding touched
  touch_own o e l = rw (← e, own_n, lt-ltb _ _ l)
