-- The session's bytes after a write: its bytes before, with the write laid on.
use mathlib.Core.Path.{◌≡◌, refl, sym, ap, ◌∙◌}
use mathlib.Core.Bool.{Bool, true, false, cond, ◌&&◌, ◌||◌, or-false, or-true, and-eq-true_iff, and-true, and-false}
use mathlib.Core.List.{List, [], ◌∷◌, ◌++◌}
use mathlib.Core.Logic.{◌⊎◌, inl, inr, ⊎_elim}
use Prim.Native.Nat.{ℕ, zero, suc, ◌+◌, ◌*◌, ◌-◌, ◌/◌, ◌%◌, ◌≤◌, ◌<◌, min, max}
use native.Mathlib.Nat.{add-zero, zero-add, zero-mul, add-mul, mul-le-mul_right, suc-mul, div-add-mod', mod-lt}
use native.Mathlib.Omega.{arith}
use lib.Dec.{leb, ltb, eqb}
use lib.ListN.{length, get_or, length-set, length-take, length-drop}
use lib.Seq.{ext_get_or}
use borrow.Author.Tests.{lt-ltb, le-ltb, ltb-true, ltb-false, leb-true, leb-false, eqb-true, eqb-false, eq-eqb, ne_eqb}
use Rattle.rules.specs.Bytes.{byte_at, part, laid, tabulate}
use Rattle.rules.specs.View.{place_of, has, no_entry, logicals, has_page, entry_of, page_of, revision_byte, own_pages, shown_byte, session_byte, session_bytes, pages_from, pages_in, pages_shared}
use Rattle.rules.specs.Session.{Held, with_page, first_copy, touched, touching, over_page, laid_on_page, written_pages, written}
use Rattle.rules.specs.declared.Setting.{Setting}
use Rattle.rules.specs.declared.Entry.{Entry}
use Rattle.rules.specs.declared.State.{State}
use Rattle.rules.proofs.Bytes.{length-laid, byte-part, length-tabulate, byte-tabulate, byte-below, byte_on, byte_above, length_over}
use Rattle.rules.proofs.Entries.{length-logicals, either, order, place_value, place-within, place-append, place_snoc, has_cons, has_snoc}
use Rattle.rules.proofs.Range.{own-length, own_more, touching_grows, touching_new, pages_order, pages_some}

-- ---- the byte that is shown

module _ (original : List ℕ) (p : ℕ) (index : List Entry) (end : ℕ) where
  pub shown_own : (h own : List ℕ) (i : ℕ) → has own (page_of p i) ≡ true
      → shown_byte original h p index end own i ≡ byte_at h (end + place_of (page_of p i) own * p + i % p)
  unfolding shown_byte
  shown_own h own i t = rw t

  pub shown-parent : (h own : List ℕ) (i : ℕ) → has own (page_of p i) ≡ false
      → shown_byte original h p index end own i ≡ revision_byte original h p index i
  unfolding shown_byte
  shown-parent h own i t = rw t

  -- An own page more is not seen from the other pages.
  shown_more : (h own : List ℕ) (a i : ℕ) → (page_of p i ≡ a → ⊥)
      → shown_byte original h p index end (own ++ (a ∷ [])) i ≡ shown_byte original h p index end own i
  shown_more h own a i other =
      let e : has (own ++ (a ∷ [])) (page_of p i) ≡ has own (page_of p i) = has_snoc own a (page_of p i) ∙ rw (ne_eqb a (page_of p i) (λ z. other (sym z))) (or-false _) in
      ⊎_elim
      (λ (t : has own (page_of p i) ≡ true).
      shown_own h (own ++ (a ∷ [])) i (e ∙ t)
      ∙ rw (place-append (page_of p i) own (a ∷ []) (ltb-true _ _ t)) (sym (shown_own h own i t)))
      (λ (t : has own (page_of p i) ≡ false). shown-parent h (own ++ (a ∷ [])) i (e ∙ t) ∙ sym (shown-parent h own i t))
      (either (has own (page_of p i)))

-- What is laid in one own page's room is not seen from other pages: own pages lie apart, and what the index points to lies ahead of
-- them all.
module _ (original : List ℕ) (p : ℕ) (index : List Entry) (end : ℕ) (some : 0 < p)
    (stored : (k : ℕ) → k < length index → (get_or index k no_entry).physical + p ≤ end) (h : List ℕ) (to : ℕ) (ys : List ℕ) (fits : to + length ys ≤ length h) where
  revision-laid : end ≤ to → (i : ℕ) → revision_byte original (laid h to ys) p index i ≡ revision_byte original h p index i
  unfolding revision_byte
  revision-laid behind i = ⊎_elim
      (λ (t : has_page index (page_of p i) ≡ true).
      let k : place_of (page_of p i) (logicals index) < length index = rw (length-logicals index) at (ltb-true (place_of (page_of p i) (logicals index)) (length (logicals index)) t) in
      rw t (byte-below h to ys (omega arith) ((entry_of index (page_of p i)).physical + i % p) (omega (arith, stored (place_of (page_of p i) (logicals index)) k, mod-lt i some))))
      (λ (t : has_page index (page_of p i) ≡ false). rw t)
      (either (has_page index (page_of p i)))

  shown_elsewhere : (q : ℕ) → end + q * p ≤ to → to + length ys ≤ end + q * p + p → (own : List ℕ) (i : ℕ)
      → (has own (page_of p i) ≡ true → place_of (page_of p i) own ≡ q → ⊥)
      → shown_byte original (laid h to ys) p index end own i ≡ shown_byte original h p index end own i
  shown_elsewhere q low high own i other =
      let a : ℕ = page_of p i in
      let r : i % p < p = mod-lt i some in
      ⊎_elim
      (λ (t : has own a ≡ true).
      shown_own original p index end (laid h to ys) own i t
      ∙ ⊎_elim
      (λ (l : place_of a own < q).
      let m : suc (place_of a own) * p ≤ q * p = mul-le-mul_right p l in
      byte-below h to ys (omega arith) (end + place_of a own * p + i % p) (omega (arith, suc-mul (place_of a own) p)))
      (⊎_elim
      (λ (e : place_of a own ≡ q). absurd (other t e))
      (λ (l : q < place_of a own).
      let m : suc q * p ≤ place_of a own * p = mul-le-mul_right p l in
      byte_above h to ys (omega arith) (end + place_of a own * p + i % p) (omega (arith, suc-mul q p))))
      (order (place_of a own) q)
      ∙ sym (shown_own original p index end h own i t))
      (λ (t : has own a ≡ false).
      shown-parent original p index end (laid h to ys) own i t ∙ revision-laid (omega arith) i ∙ sym (shown-parent original p index end h own i t))
      (either (has own a))

-- ---- bytes laid over a page

-- Whether a write of n bytes at an offset has byte i.
unfoldable covers : ℕ → ℕ → ℕ → Bool
covers at n i = leb at i && ltb i (at + n)

covers_yes : (at n i : ℕ) → covers at n i ≡ true → (at ≤ i) × (i < at + n)
unfolding covers
covers_yes at n i t = let both = (and-eq-true_iff _ _).0 t in (leb-true _ _ both.0, ltb-true _ _ both.1)

covers_no : (at n i : ℕ) → covers at n i ≡ false → (i < at) ⊎ (at + n ≤ i)
unfolding covers
covers_no at n i t = ⊎_elim
    (λ (l : leb at i ≡ true). inr (ltb-false i (at + n) (rw l at t)))
    (λ (l : leb at i ≡ false). inl (leb-false at i l))
    (either (leb at i))

-- Apart from the rest, so that few cases are to be told apart.
in_both : (i first last at n : ℕ) → first ≤ i → at ≤ first → i < last → i < at + n → i - first < min (last - first) (n - (first - at))
in_both i first last at n above behind below within = omega arith

-- The bytes of a write that fall into page a: how many, and where they end.
module _ (p a at : ℕ) (bytes : List ℕ) where
  abbrev first : ℕ
  first = max at a

  abbrev run : List ℕ
  run = part bytes (first - at) (min (at + length bytes) (a + p) - first)

  run_short : length run ≤ min (at + length bytes) (a + p) - first
  run_short = rw length-take (omega arith)

  run_ends : at ≤ a + p → first - a + length run ≤ p
  run_ends near = omega (arith, run_short)

  byte_run : (i : ℕ) → at ≤ i → i < at + length bytes → a ≤ i → i < a + p → (i - first < length run) × (get_or run (i - first) 0 ≡ get_or bytes (i - at) 0)
  byte_run i l m n o =
      let above : first ≤ i = omega arith in
      let behind : at ≤ first = omega arith in
      let below : i < min (at + length bytes) (a + p) = omega arith in
      let e : first - at + (i - first) ≡ i - at = omega arith in
      (rw (length-take, length-drop) (in_both i first (min (at + length bytes) (a + p)) at (length bytes) above behind below m), byte-part bytes (first - at) (min (at + length bytes) (a + p) - first) (i - first) (omega arith) ∙ rw e)

-- They stay within the page's room, wherever that is.
module _ (h : List ℕ) (to p a at : ℕ) (bytes : List ℕ) (room : to + p ≤ length h) (near : at ≤ a + p) where
  run_fits : to + (max at a - a) + length (run p a at bytes) ≤ length h
  run_fits = omega (arith, run_ends p a at bytes near)

  length-over_page : length (over_page h to p a at bytes) ≡ length h
  unfolding over_page
  length-over_page = length-laid h (to + (max at a - a)) (run p a at bytes) run_fits

  over-ahead : (i : ℕ) → i < to → byte_at (over_page h to p a at bytes) i ≡ byte_at h i
  unfolding over_page
  over-ahead i l = byte-below h (to + (max at a - a)) (run p a at bytes) (omega (arith, run_fits)) i (omega arith)

-- The page's bytes show the write, and every other byte is as it was.
module _ (original : List ℕ) (p : ℕ) (index : List Entry) (end : ℕ) (some : 0 < p)
    (stored : (k : ℕ) → k < length index → (get_or index k no_entry).physical + p ≤ end)
    (h own : List ℕ) (a : ℕ) (there : has own a ≡ true) (room : end + place_of a own * p + p ≤ length h) (at : ℕ) (bytes : List ℕ) (near : at ≤ a + p) where
  abbrev home : ℕ
  home = end + place_of a own * p

  over_fits : home + (max at a - a) + length (run p a at bytes) ≤ length h
  over_fits = run_fits h home p a at bytes room near

  over_covered : (i : ℕ) → page_of p i ≡ a → covers at (length bytes) i ≡ true
      → shown_byte original (over_page h home p a at bytes) p index end own i ≡ byte_at bytes (i - at)
  unfolding over_page
  over_covered i e c =
      let w = covers_yes at (length bytes) i c in
      let split : a + i % p ≡ i = rw (← e) (div-add-mod' i p) in
      let r = byte_run p a at bytes i w.0 w.1 (omega arith) (omega (arith, mod-lt i some)) in
      let f : home + i % p ≡ home + (max at a - a) + (i - max at a) = omega (arith, w.0) in
      shown_own original p index end _ own i (rw e there)
      ∙ rw (e, f) (byte_on h (home + (max at a - a)) (run p a at bytes) (omega (arith, over_fits)) (i - max at a) r.0 ∙ r.1)

  over_uncovered : (i : ℕ) → page_of p i ≡ a → covers at (length bytes) i ≡ false
      → shown_byte original (over_page h home p a at bytes) p index end own i ≡ shown_byte original h p index end own i
  unfolding over_page
  over_uncovered i e c =
      let split : a + i % p ≡ i = rw (← e) (div-add-mod' i p) in
      let start : home + (max at a - a) ≤ length h = omega (arith, over_fits) in
      let same : byte_at (laid h (home + (max at a - a)) (run p a at bytes)) (home + i % p) ≡ byte_at h (home + i % p) = ⊎_elim
      (λ (l : i < at). byte-below h (home + (max at a - a)) (run p a at bytes) start (home + i % p) (omega arith))
      (λ (l : at + length bytes ≤ i). byte_above h (home + (max at a - a)) (run p a at bytes) start (home + i % p) (omega (arith, run_short p a at bytes)))
      (covers_no at (length bytes) i c) in
      shown_own original p index end _ own i (rw e there) ∙ rw e (same ∙ sym (rw e at (shown_own original p index end h own i (rw e there))))

  over_elsewhere : (i : ℕ) → (a ≡ page_of p i → ⊥)
      → shown_byte original (over_page h home p a at bytes) p index end own i ≡ shown_byte original h p index end own i
  unfolding over_page
  over_elsewhere i other =
      shown_elsewhere original p index end some stored h (home + (max at a - a)) (run p a at bytes) over_fits (place_of a own) (omega arith)
      (omega (arith, run_ends p a at bytes near)) own i
      (λ t e. other (sym (place_value a own (ltb-true _ _ there)) ∙ ap (λ (k : ℕ). get_or own k 0) (sym e) ∙ place_value (page_of p i) own (ltb-true _ _ t)))

  shown-over : (i : ℕ)
      → shown_byte original (over_page h home p a at bytes) p index end own i
      ≡ cond (covers at (length bytes) i && eqb a (page_of p i)) (byte_at bytes (i - at)) (shown_byte original h p index end own i)
  shown-over i = ⊎_elim
      (λ (t : eqb a (page_of p i) ≡ true).
      let e : page_of p i ≡ a = sym (eqb-true a (page_of p i) t) in
      ⊎_elim
      (λ (c : covers at (length bytes) i ≡ true). rw (t, c) (over_covered i e c))
      (λ (c : covers at (length bytes) i ≡ false). rw (t, c) (over_uncovered i e c))
      (either (covers at (length bytes) i)))
      (λ (t : eqb a (page_of p i) ≡ false). rw (t, and-false) (over_elsewhere i (eqb-false a (page_of p i) t)))
      (either (eqb a (page_of p i)))

-- ---- a first copy

-- It shows what was shown, below the size: only there, since past the size it has zeros.
module _ (original : List ℕ) (p : ℕ) (index : List Entry) (end : ℕ) (some : 0 < p)
    (stored : (k : ℕ) → k < length index → (get_or index k no_entry).physical + p ≤ end)
    (h own : List ℕ) (n a size : ℕ) (long : length own ≡ n) (missing : has own a ≡ false) (room : end + n * p + p ≤ length h) where
  abbrev copy_byte : ℕ → ℕ
  copy_byte j = cond (ltb (a + j) size) (shown_byte original h p index end own (a + j)) 0

  abbrev copied : List ℕ
  copied = laid h (end + n * p) (tabulate p copy_byte)

  copy_fits : end + n * p + length (tabulate p copy_byte) ≤ length h
  copy_fits = rw (length-tabulate p copy_byte) room

  length_copied : length copied ≡ length h
  length_copied = length-laid h (end + n * p) (tabulate p copy_byte) copy_fits

  shown_copied : (i : ℕ) → (page_of p i ≡ a → i < size)
      → shown_byte original copied p index end (own ++ (a ∷ [])) i ≡ shown_byte original h p index end own i
  shown_copied i below = ⊎_elim
      (λ (t : eqb a (page_of p i) ≡ true).
      let e : a ≡ page_of p i = eqb-true a (page_of p i) t in
      let split : a + i % p ≡ i = rw e (div-add-mod' i p) in
      let place : place_of (page_of p i) (own ++ (a ∷ [])) ≡ n = rw (← e) (place_snoc a own ∙ omega (arith, place-within a own, ltb-false (place_of a own) (length own) missing)) in
      let there : has (own ++ (a ∷ [])) (page_of p i) ≡ true = has_snoc own a (page_of p i) ∙ rw t (or-true (has own (page_of p i))) in
      let byte : byte_at copied (end + n * p + i % p) ≡ copy_byte (i % p) =
      byte_on h (end + n * p) (tabulate p copy_byte) (omega arith) (i % p) (rw (length-tabulate p copy_byte) (mod-lt i some)) ∙ byte-tabulate p copy_byte (i % p) (mod-lt i some) in
      shown_own original p index end copied (own ++ (a ∷ [])) i there
      ∙ rw place (byte ∙ rw (split, lt-ltb i size (below (sym e)))))
      (λ (t : eqb a (page_of p i) ≡ false).
      shown_more original p index end copied own a i (λ e. eqb-false a (page_of p i) t (sym e))
      ∙ shown_elsewhere original p index end some stored h (end + n * p) (tabulate p copy_byte) copy_fits n (omega arith)
      (rw (length-tabulate p copy_byte) (omega arith)) own i (λ u e. omega (arith, ltb-true (place_of (page_of p i) own) (length own) u)))
      (either (eqb a (page_of p i)))

  -- Past the size it is zero, and so is an own page that was.
  zero_copied : (i : ℕ) → size ≤ i → (has own (page_of p i) ≡ true → shown_byte original h p index end own i ≡ 0) → has (own ++ (a ∷ [])) (page_of p i) ≡ true
      → shown_byte original copied p index end (own ++ (a ∷ [])) i ≡ 0
  zero_copied i past nought there = ⊎_elim
      (λ (t : eqb a (page_of p i) ≡ true).
      let e : a ≡ page_of p i = eqb-true a (page_of p i) t in
      let split : a + i % p ≡ i = rw e (div-add-mod' i p) in
      let place : place_of (page_of p i) (own ++ (a ∷ [])) ≡ n = rw (← e) (place_snoc a own ∙ omega (arith, place-within a own, ltb-false (place_of a own) (length own) missing)) in
      let byte : byte_at copied (end + n * p + i % p) ≡ copy_byte (i % p) =
      byte_on h (end + n * p) (tabulate p copy_byte) (omega arith) (i % p) (rw (length-tabulate p copy_byte) (mod-lt i some)) ∙ byte-tabulate p copy_byte (i % p) (mod-lt i some) in
      shown_own original p index end copied (own ++ (a ∷ [])) i there
      ∙ rw place (byte ∙ rw (split, le-ltb i size past)))
      (λ (t : eqb a (page_of p i) ≡ false).
      let was : has own (page_of p i) ≡ true = sym (has_snoc own a (page_of p i) ∙ rw t (or-false (has own (page_of p i)))) ∙ there in
      shown_copied i (λ e. absurd (eqb-false a (page_of p i) t (sym e))) ∙ nought was)
      (either (eqb a (page_of p i)))

-- ---- one page of a write

-- Choices between a byte of the write and the one that was shown.
cond_else : (t : Bool) (x : ℕ) {y z : ℕ} → (t ≡ false → y ≡ z) → cond t x y ≡ cond t x z
cond_else true x h = refl
cond_else false x h = h refl

cond_and : (c : Bool) {t : Bool} (x y : ℕ) → (c ≡ true → t ≡ true) → cond (c && t) x y ≡ cond c x y
cond_and true x y h = rw (h refl)
cond_and false x y h = refl

-- A later page of the write chooses from what an earlier one left.
cond_twice : (c here later : Bool) (x y : ℕ) → cond (c && later) x (cond (c && here) x y) ≡ cond (c && (here || later)) x y
cond_twice true true true x y = refl
cond_twice true true false x y = refl
cond_twice true false later x y = refl
cond_twice false here later x y = refl

module _ (original : List ℕ) (s : Setting) (index : List Entry) where
  abbrev page : ℕ
  page = s.form.page

  abbrev shows : Held → ℕ → ℕ
  shows held i = session_byte original held.history s held.session index i

  -- Pages that are to be touched have room, in the session's list and in the history.
  record Roomy (held : Held) (pages : List ℕ) : Type 0 where
    few : held.session.n ≤ length held.session.pages
    listed : length (touching (own_pages held.session) pages) ≤ length held.session.pages
    room : held.session.end + length (touching (own_pages held.session) pages) * page ≤ length held.history
    stored : (k : ℕ) → k < length index → (get_or index k no_entry).physical + page ≤ held.session.end

  -- What a write leaves alone as it goes from page to page: the session's numbers but for its pages, and the history ahead of them.
  record Alone (before after : Held) : Type 0 where
    end : after.session.end ≡ before.session.end
    count : after.session.count ≡ before.session.count
    parent : after.session.parent ≡ before.session.parent
    size : after.session.size ≡ before.session.size
    slots : length after.session.pages ≡ length before.session.pages
    long : length after.history ≡ length before.history
    ahead : (i : ℕ) → i < before.session.end → byte_at after.history i ≡ byte_at before.history i

  alone_both : {first second third : Held} → Alone first second → Alone second third → Alone first third
  alone_both x y = record {
    end = y.end ∙ x.end;
    count = y.count ∙ x.count;
    parent = y.parent ∙ x.parent;
    size = y.size ∙ x.size;
    slots = y.slots ∙ x.slots;
    long = y.long ∙ x.long;
    ahead = λ i l. y.ahead i (omega (arith, x.end)) ∙ x.ahead i l;
  }

  -- An own page is zero past the session's size.
  abbrev Zero : Held → ℕ → Type 0
  Zero held i = has (own_pages held.session) (page_of page i) ≡ true → shows held i ≡ 0

  -- What a touch of a page leaves.
  record Touched (a : ℕ) (pages : List ℕ) (before after : Held) : Type 0 where
    alone : Alone before after
    own : own_pages after.session ≡ touching (own_pages before.session) (a ∷ [])
    there : has (own_pages after.session) a ≡ true
    roomy : Roomy after pages
    shown : (i : ℕ) → (page_of page i ≡ a → i < before.session.size) → shows after i ≡ shows before i
    zero : (i : ℕ) → before.session.size ≤ i → Zero before i → Zero after i

  module _ (some : 0 < page) (a : ℕ) (pages : List ℕ) (held : Held) (w : Roomy held (a ∷ pages)) where
    abbrev st : State
    st = held.session

    touch_old : has (own_pages st) a ≡ true → Touched a pages held (touched original s index a held)
    unfolding touched touching
    touch_old t =
        rw t
        (record {
          alone = record { end = refl; count = refl; parent = refl; size = refl; slots = refl; long = refl; ahead = λ i l. refl };
          own = rw t;
          there = t;
          roomy = record { few = w.few; listed = rw t at w.listed; room = rw t at w.room; stored = w.stored };
          shown = λ i l. refl;
          zero = λ i l z. z;
        })

    touch_new : has (own_pages st) a ≡ false → Touched a pages held (touched original s index a held)
    unfolding touched touching first_copy
    touch_new t =
        let n = own-length st w.few in
        let one = touching_new (own_pages st) a pages t in
        let k : st.n < length st.pages = omega (arith, w.listed) in
        let more : own_pages (with_page st a) ≡ own_pages st ++ (a ∷ []) = own_more st a k in
        let m : suc st.n * page ≤ length (touching (own_pages st) (a ∷ pages)) * page = mul-le-mul_right page (omega arith) in
        let room : st.end + st.n * page + page ≤ length held.history = omega (arith, w.room, suc-mul st.n page) in
        let long = length_copied original page index st.end some w.stored held.history (own_pages st) st.n a st.size n t room in
        let bytes : List ℕ = tabulate page (copy_byte original page index st.end some w.stored held.history (own_pages st) st.n a st.size n t room) in
        rw t
        (record {
          alone = record {
            end = refl;
            count = refl;
            parent = refl;
            size = refl;
            slots = length-set st.pages st.n a;
            long = long;
            ahead = λ i l. byte-below held.history (st.end + st.n * page) bytes (omega arith) i (omega arith);
          };
          own = rw t more;
          there = rw more (has_snoc (own_pages st) a a ∙ rw (eq-eqb a a refl) (or-true (has (own_pages st) a)));
          roomy = record {
            few = rw length-set (omega arith);
            listed = rw (more, length-set) (rw t at w.listed);
            room = rw (more, long) (rw t at w.room);
            stored = w.stored;
          };
          shown = λ i l. rw more (shown_copied original page index st.end some w.stored held.history (own_pages st) st.n a st.size n t room i l);
          zero = λ i l z u. rw more (zero_copied original page index st.end some w.stored held.history (own_pages st) st.n a st.size n t room i l z (rw more at u));
        })

    touch_leaves : Touched a pages held (touched original s index a held)
    touch_leaves = ⊎_elim touch_old touch_new (either (has (own_pages st) a))

  -- ---- page after page

  module _ (some : 0 < page) (at : ℕ) (bytes : List ℕ) where
    abbrev covered : ℕ → Bool
    covered i = covers at (length bytes) i

    abbrev step : ℕ → Held → Held
    step a held = laid_on_page s at bytes a (touched original s index a held)

    -- What one page of a write leaves: the write's bytes in that page, and else what was shown. Of a byte past the size, which a first
    -- copy makes zero, this holds only if the write has it.
    record Stepped (a : ℕ) (pages : List ℕ) (before after : Held) : Type 0 where
      alone : Alone before after
      own : own_pages after.session ≡ touching (own_pages before.session) (a ∷ [])
      roomy : Roomy after pages
      zero : (i : ℕ) → before.session.size ≤ i → covered i ≡ false → Zero before i → Zero after i
      shown : (i : ℕ) → (covered i ≡ false → i < before.session.size)
          → shows after i ≡ cond (covered i && eqb a (page_of page i)) (byte_at bytes (i - at)) (shows before i)

    step_leaves : (a : ℕ) (pages : List ℕ) (held : Held) → Roomy held (a ∷ pages) → at ≤ a + page → Stepped a pages held (step a held)
    unfolding laid_on_page
    step_leaves a pages held w near =
        let middle : Held = touched original s index a held in
        let st : State = middle.session in
        let own : List ℕ = own_pages st in
        let z : Touched a pages held middle = touch_leaves some a pages held w in
        let k : suc (place_of a own) ≤ length (touching own pages) = omega (arith, ltb-true (place_of a own) (length own) z.there, touching_grows own pages) in
        let m : suc (place_of a own) * page ≤ length (touching own pages) * page = mul-le-mul_right page k in
        let room : st.end + place_of a own * page + page ≤ length middle.history = omega (arith, z.roomy.room, suc-mul (place_of a own) page) in
        let long = length-over_page middle.history (st.end + place_of a own * page) page a at bytes room near in
        let shown = shown-over original page index st.end some z.roomy.stored middle.history own a z.there room at bytes near in
        let laid-alone : Alone middle (step a held) = record {
          end = refl;
          count = refl;
          parent = refl;
          size = refl;
          slots = refl;
          long = long;
          ahead = λ i l. over-ahead middle.history (st.end + place_of a own * page) page a at bytes room near i (omega arith);
        } in
        record {
          alone = alone_both z.alone laid-alone;
          own = z.own;
          zero = λ i past f nought u. shown i ∙ rw f (z.zero i past nought u);
          roomy = record { few = z.roomy.few; listed = z.roomy.listed; room = rw long z.roomy.room; stored = z.roomy.stored };
          shown = λ i below. shown i
              ∙ cond_else (covered i && eqb a (page_of page i)) (byte_at bytes (i - at)) (λ f. z.shown i (λ e. below (rw (eq-eqb a (page_of page i) (sym e), and-true) at f)));
        }

    -- All of them. That a page comes only once, and that own pages do, is not needed: the first place of a page is the one that is read
    -- and the one that is written.
    written-shows : (m a : ℕ) (held : Held) → Roomy held (pages_from page a m) → at ≤ a + page → (i : ℕ) → (covered i ≡ false → i < held.session.size)
        → shows (written_pages original s index at bytes (pages_from page a m) held) i
        ≡ cond (covered i && has (pages_from page a m) (page_of page i)) (byte_at bytes (i - at)) (shows held i)
    unfolding written_pages pages_from place_of
    written-shows zero a held w near i below = rw and-false
    written-shows (suc m) a held w near i below =
        let z = step_leaves a (pages_from page (a + page) m) held w near in
        written-shows m (a + page) (step a held) z.roomy (omega arith) i (λ f. rw z.alone.size (below f))
        ∙ rw (z.shown i below, has_cons a (pages_from page (a + page) m) (page_of page i)) (cond_twice (covered i) _ _ _ _)

    -- What they leave alone, which pages are the session's own then, and that these are zero past its size.
    record Passed (pages : List ℕ) (before after : Held) : Type 0 where
      alone : Alone before after
      few : after.session.n ≤ length after.session.pages
      own : own_pages after.session ≡ touching (own_pages before.session) pages
      zero : (i : ℕ) → before.session.size ≤ i → covered i ≡ false → Zero before i → Zero after i

    written_passes : (m a : ℕ) (held : Held) → Roomy held (pages_from page a m) → at ≤ a + page
        → Passed (pages_from page a m) held (written_pages original s index at bytes (pages_from page a m) held)
    unfolding written_pages pages_from touching
    written_passes zero a held w near = record {
      alone = record { end = refl; count = refl; parent = refl; size = refl; slots = refl; long = refl; ahead = λ i l. refl };
      few = w.few;
      own = refl;
      zero = λ i past f z. z;
    }
    written_passes (suc m) a held w near =
        let z = step_leaves a (pages_from page (a + page) m) held w near in
        let rest = written_passes m (a + page) (step a held) z.roomy (omega arith) in
        record {
          alone = alone_both z.alone rest.alone;
          few = rest.few;
          own = rest.own ∙ ap (λ (own : List ℕ). touching own (pages_from page (a + page) m)) z.own;
          zero = λ i past f nought. rest.zero i (rw z.alone.size past) f (z.zero i past f nought);
        }

-- ---- the pages of a write

has_from : (p a m k : ℕ) → k < m → has (pages_from p a m) (a + k * p) ≡ true
unfolding pages_from
has_from p a zero k l = absurd (omega arith)
has_from p a (suc m) zero l =
    has_cons a (pages_from p (a + p) m) (a + 0 * p) ∙ rw (zero-mul, add-zero, eq-eqb a a refl)
has_from p a (suc m) (suc k) l =
    let e : a + suc k * p ≡ a + p + k * p = omega (arith, suc-mul k p) in
    has_cons a (pages_from p (a + p) m) (a + suc k * p) ∙ rw (e, has_from p (a + p) m k (omega arith)) (or-true (eqb a (a + p + k * p)))

-- Each byte of the write lies in one of them.
has_shared : (p at n i : ℕ) → 0 < p → at ≤ i → i < at + n → has (pages_shared p at n) (page_of p i) ≡ true
has_shared p at n i some low high =
    let back : at + (i - at) ≡ i = omega arith in
    let on : i + (at + (n - 1) - i) ≡ at + (n - 1) = omega arith in
    let x : at / p ≤ i / p = rw back at (pages_order p at (i - at) some) in
    let y : i / p ≤ (at + (n - 1)) / p = rw on at (pages_order p i (at + (n - 1) - i) some) in
    let c = pages_some p at n (λ z. omega arith) in
    let e : at / p + (i / p - at / p) ≡ i / p = omega arith in
    let f : at / p * p + (i / p - at / p) * p ≡ i / p * p = sym (add-mul (at / p) (i / p - at / p) p) ∙ rw e in
    rw f at (has_from p (at / p * p) (pages_in p at n) (i / p - at / p) (omega arith))

-- ---- a write

-- A table of the bytes of a write and of the bytes that it leaves is the write laid over their table.
table-laid : (f g : ℕ → ℕ) (size at : ℕ) (bytes : List ℕ) → at ≤ size
    → ((i : ℕ) → i < max size (at + length bytes) → g i ≡ cond (covers at (length bytes) i) (byte_at bytes (i - at)) (f i))
    → tabulate (max size (at + length bytes)) g ≡ laid (tabulate size f) at bytes
table-laid f g size at bytes starts same =
    let long = length-tabulate size f in
    let whole = length-tabulate (max size (at + length bytes)) g in
    let begins : at ≤ length (tabulate size f) = omega arith in
    ext_get_or 0 (tabulate (max size (at + length bytes)) g) (laid (tabulate size f) at bytes) (whole ∙ sym (length_over (tabulate size f) at bytes begins ∙ rw long))
    (λ i m.
    let l : i < max size (at + length bytes) = omega arith in
    byte-tabulate (max size (at + length bytes)) g i l ∙ same i l
    ∙ ⊎_elim
    (λ (c : covers at (length bytes) i ≡ true).
    let w = covers_yes at (length bytes) i c in
    let e : at + (i - at) ≡ i = omega (arith, w.0) in
    rw c (sym (rw e at (byte_on (tabulate size f) at bytes begins (i - at) (omega (arith, w.0, w.1))))))
    (λ (c : covers at (length bytes) i ≡ false).
    rw c
    (⊎_elim
    (λ (k : i < at). sym (byte-below (tabulate size f) at bytes begins i k ∙ byte-tabulate size f i (omega arith)))
    (λ (k : at + length bytes ≤ i). sym (byte_above (tabulate size f) at bytes begins i k ∙ byte-tabulate size f i (omega arith)))
    (covers_no at (length bytes) i c)))
    (either (covers at (length bytes) i)))

abbrev pub after_write : List ℕ → List ℕ → Setting → State → List Entry → ℕ → List ℕ → Held
after_write original history s st index at bytes = written original s index at bytes (record { history = history; session = st })

-- What a write is held to: the pages that it touches have room in the session's list and in the history, what the parent's index points
-- to lies ahead of the session's pages, and it starts at most at the size.
module _ (original history : List ℕ) (s : Setting) (st : State) (index : List Entry) (at : ℕ) (bytes : List ℕ)
    (some : 0 < s.form.page)
    (few : st.n ≤ length st.pages)
    (listed : length (touching (own_pages st) (pages_shared s.form.page at (length bytes))) ≤ length st.pages)
    (room : st.end + length (touching (own_pages st) (pages_shared s.form.page at (length bytes))) * s.form.page ≤ length history)
    (stored : (k : ℕ) → k < length index → (get_or index k no_entry).physical + s.form.page ≤ st.end)
    (starts : at ≤ st.size) where
  -- Byte by byte: the write's where it has one, else the one before. No byte below the new size is neither, for a write starts at most
  -- at the size.
  pub byte-written : (i : ℕ) → i < max st.size (at + length bytes)
      → session_byte original (after_write original history s st index at bytes).history s (after_write original history s st index at bytes).session index i
      ≡ cond (leb at i && ltb i (at + length bytes)) (byte_at bytes (i - at)) (session_byte original history s st index i)
  unfolding written covers
  byte-written i l =
      written-shows original s index some at bytes (pages_in s.form.page at (length bytes)) (page_of s.form.page at) (record { history = history; session = st })
      (record { few = few; listed = listed; room = room; stored = stored }) (omega (arith, div-add-mod' at s.form.page, mod-lt at some)) i
      (λ f. ⊎_elim (λ (z : i < at). omega arith) (λ (z : at + length bytes ≤ i). omega arith) (covers_no at (length bytes) i f))
      ∙ cond_and (covers at (length bytes) i) _ _ (λ c. let w = covers_yes at (length bytes) i c in has_shared s.form.page at (length bytes) i some w.0 w.1)

  -- Stands for itself: the session's bytes after an accepted write are its bytes before with the write laid on. Demand 3 rests on it.
  pub bytes-written : session_bytes original (after_write original history s st index at bytes).history s (after_write original history s st index at bytes).session index 0 (max st.size (at + length bytes))
      ≡ laid (session_bytes original history s st index 0 st.size) at bytes
  unfolding covers
  bytes-written = table-laid _ _ st.size at bytes starts (λ i l. rw zero-add (byte-written i l))

  -- Its pages are the ones before with those that it touched behind them, it leaves the other numbers and all ahead of its pages alone,
  -- and an own page is zero past the new size if it was past the old one.
  pub record Leaves (after : Held) : Type 0 where
    pub end : after.session.end ≡ st.end
    pub count : after.session.count ≡ st.count
    pub parent : after.session.parent ≡ st.parent
    pub size : after.session.size ≡ max st.size (at + length bytes)
    pub slots : length after.session.pages ≡ length st.pages
    pub filled : after.session.n ≤ length after.session.pages
    pub own : own_pages after.session ≡ touching (own_pages st) (pages_shared s.form.page at (length bytes))
    pub long : length after.history ≡ length history
    pub ahead : (i : ℕ) → i < st.end → byte_at after.history i ≡ byte_at history i
    pub zero : (i : ℕ) → max st.size (at + length bytes) ≤ i
        → (has (own_pages st) (page_of s.form.page i) ≡ true → session_byte original history s st index i ≡ 0)
        → has (own_pages after.session) (page_of s.form.page i) ≡ true → session_byte original after.history s after.session index i ≡ 0

  pub write_leaves : Leaves (after_write original history s st index at bytes)
  unfolding written covers
  write_leaves =
      let w = written_passes original s index some at bytes (pages_in s.form.page at (length bytes)) (page_of s.form.page at) (record { history = history; session = st })
      (record { few = few; listed = listed; room = room; stored = stored }) (omega (arith, div-add-mod' at s.form.page, mod-lt at some)) in
      record {
        end = w.alone.end;
        count = w.alone.count;
        parent = w.alone.parent;
        size = refl;
        slots = w.alone.slots;
        filled = w.few;
        own = w.own;
        long = w.alone.long;
        ahead = w.alone.ahead;
        zero = λ i past. w.zero i (omega arith) (rw (le-ltb i (at + length bytes) (omega arith)) (and-false (leb at i)));
      }
