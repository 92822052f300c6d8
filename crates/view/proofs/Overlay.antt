-- The session's own pages, laid over the revision's bytes.
use mathlib.Core.Path.{◌≡◌, refl, ◌∙◌}
use mathlib.Core.Bool.{true, false, cond}
use mathlib.Core.List.{List, ◌∷◌}
use mathlib.Core.Logic.{⊎_elim}
use Prim.Native.Nat.{ℕ, suc, ◌+◌, ◌*◌, ◌-◌, ◌%◌, ◌≤◌, ◌<◌, min, max}
use native.Mathlib.Nat.{add-zero, suc-mul, zero-mul, div-add-mod', mod-lt}
use native.Mathlib.Omega.{arith}
use lib.Dec.{eqb}
use lib.ListN.{length, drop, get_or}
use lib.Seq.{drop-length, drop-cons}
use borrow.Author.Tests.{eq-eqb, ne_eqb}
use Rattle.rules.specs.Bytes.{byte_at, part, laid, tabulate}
use Rattle.rules.specs.Layout.{entries_in}
use Rattle.rules.specs.View.{place_of, page_of, revision_bytes, shown_byte}
use Rattle.rules.specs.declared.Entry.{Entry}
use Rattle.rules.proofs.Bytes.{length-tabulate, tabulate-same, byte-tabulate, whole-tabulate, part-laid_table}
use Rattle.rules.proofs.Entries.{has_cons, either, order}
use Rattle.rules.proofs.Range.{page-at, page-multiple}
use Rattle.view.specs.Places.{own_over}
use Rattle.view.specs.declared.View.{View}
use Rattle.view.proofs.Pages.{page_size}

-- ---- One page

module _ (xs h : List ℕ) (p address stored from : ℕ) (some : 0 < p) where
  -- A byte ahead of the page, behind it, or where no page can stand, stays.
  off : (j : ℕ) → (address ≡ page_of p (from + j) → ⊥) → get_or xs j 0 ≡ own_over xs h p address stored from j
  unfolding own_over
  off j n = rw (ne_eqb address (page_of p (from + j)) n)

  apart : (j : ℕ) → (from + j < address) → address ≡ page_of p (from + j) → ⊥
  apart j l e = omega (arith, div-add-mod' (from + j) p)

  past : (j : ℕ) → address + p ≤ from + j → address ≡ page_of p (from + j) → ⊥
  past j l e = omega (arith, div-add-mod' (from + j) p, mod-lt (from + j) some)

  pub own_apart : min (address + p) (from + length xs) ≤ max address from → xs ≡ tabulate (length xs) (own_over xs h p address stored from)
  own_apart l = whole-tabulate xs ∙ tabulate-same (length xs) _ _ (λ j m. ⊎_elim
      (λ (q : from + j < address). off j (apart j q))
      (λ q. off j (past j (⊎_elim (λ (r : from + j ≡ address). omega arith) (λ (r : address < from + j). omega arith) q)))
      (order (from + j) address))

  pub own_uneven : (address % p ≡ 0 → ⊥) → xs ≡ tabulate (length xs) (own_over xs h p address stored from)
  own_uneven n = whole-tabulate xs ∙ tabulate-same (length xs) _ _ (λ j m. off j (λ e. n (rw e (page-multiple p (from + j)))))

  pub own-laid : address % p ≡ 0 → stored + p ≤ length h → {start end : ℕ} → start ≡ max address from → end ≡ min (address + p) (from + length xs) → start < end
      → {after : List ℕ} → after ≡ laid xs (start - from) (part h (stored + (start - address)) (end - start)) → after ≡ tabulate (length xs) (own_over xs h p address stored from)
  unfolding own_over
  own-laid z room {start} {end} es ee l e = e ∙ part-laid_table xs h (start - from) (stored + (start - address)) (end - start) (own_over xs h p address stored from) (omega arith) (omega arith)
      (λ j m. off j (apart j (omega arith)))
      (λ i m. hit i m)
      (λ j m r. off j (past j (omega arith)))
    where
      hit : (i : ℕ) → i < end - start → get_or h (stored + (start - address) + i) 0 ≡ own_over xs h p address stored from (start - from + i)
      hit i m =
          let s : from + (start - from + i) ≡ address + (start - address + i) = omega arith in
          let q = page-at p address (start - address + i) z (omega arith) in
          let y : stored + (start - address) + i ≡ stored + (start - address + i) = omega arith in
          rw (s, q.0, q.1, eq-eqb address address refl, y)

-- ---- All of them

place_here : (a x : ℕ) (xs : List ℕ) → eqb x a ≡ true → place_of a (x ∷ xs) ≡ 0
unfolding place_of
place_here a x xs t = rw t

place-behind : (a x : ℕ) (xs : List ℕ) → eqb x a ≡ false → place_of a (x ∷ xs) ≡ suc (place_of a xs)
unfolding place_of
place-behind a x xs t = rw t

-- The first own page ahead of the others.
over_cons : (o h : List ℕ) (p : ℕ) (index : List Entry) (x : ℕ) (own : List ℕ) (stored i : ℕ)
    → shown_byte o h p index stored (x ∷ own) i ≡ cond (eqb x (page_of p i)) (byte_at h (stored + i % p)) (shown_byte o h p index (stored + p) own i)
unfolding shown_byte
over_cons o h p index x own stored i = rw (has_cons x own (page_of p i)) (⊎_elim
    (λ (t : eqb x (page_of p i) ≡ true). rw (t, place_here (page_of p i) x own t, zero-mul, add-zero))
    (λ (t : eqb x (page_of p i) ≡ false).
    let e : stored + suc (place_of (page_of p i) own) * p ≡ stored + p + place_of (page_of p i) own * p = rw suc-mul (omega arith) in
    rw (t, place-behind (page_of p i) x own t, e))
    (either (eqb x (page_of p i))))

-- Byte j with the own pages from one on over it.
abbrev over : List ℕ → List ℕ → View → ℕ → ℕ → ℕ → ℕ
over o h v from mine j = shown_byte o h (page_size v) (entries_in h v.index) (v.end + mine * page_size v) (drop mine v.own.now) (from + j)

-- Of n bytes that were the revision's, those with the own pages from one on laid over them.
pub record Overlaid (o h : List ℕ) (v : View) (from n : ℕ) (now : List ℕ) (mine : ℕ) : Type 0 where
  pub within : mine ≤ length v.own.now
  pub bytes : now ≡ tabulate n (λ j. over o h v from mine j)

pub table-length : (n : ℕ) (f : ℕ → ℕ) {now : List ℕ} → now ≡ tabulate n f → length now ≡ n
table-length n f e = rw e (length-tabulate n f)

pub over-start : (o h : List ℕ) (v : View) (from n : ℕ) {now : List ℕ} → now ≡ revision_bytes o h (page_size v) (entries_in h v.index) from n
    → Overlaid o h v from n now (length v.own.now)
unfolding shown_byte place_of
over-start o h v from n e = record { within = omega arith; bytes = rw (drop-length v.own.now) e }

module _ {o h : List ℕ} {v : View} {from n : ℕ} {now : List ℕ} {mine : ℕ} (l : Overlaid o h v from n now mine) where
  pub over-length : length now ≡ n
  over-length = table-length n _ l.bytes

  pub over_turn : (k : ℕ) → mine ≡ suc k → {address : ℕ} → address ≡ get_or v.own.now k 0 → {after : List ℕ}
      → after ≡ tabulate (length now) (own_over now h (page_size v) address (v.end + k * page_size v) from) → Overlaid o h v from n after k
  unfolding own_over
  over_turn k m {address} ea e = record {
    within = omega (arith, l.within);
    bytes = e ∙ rw over-length (tabulate-same n _ _ (λ j q.
        let f : get_or now j 0 ≡ over o h v from mine j = rw l.bytes (byte-tabulate n _ j q) in
        let s : v.end + (k * page_size v + page_size v) ≡ v.end + k * page_size v + page_size v = omega arith in
        rw (f, m, drop-cons v.own.now k 0 (omega (arith, l.within)), ← ea, over_cons o h (page_size v) (entries_in h v.index) address (drop (suc k) v.own.now) (v.end + k * page_size v) (from + j), suc-mul, s)));
  }
