-- The pages of a range, checked one by one.
use mathlib.Core.Path.{◌≡◌, refl, sym, ap, ◌∙◌}
use mathlib.Core.Bool.{Bool, true, false, not, and-false, or-true}
use mathlib.Core.List.{List}
use mathlib.Core.Logic.{⊎_elim}
use Prim.Native.Nat.{ℕ, zero, suc, ◌+◌, ◌*◌, ◌-◌, ◌/◌, ◌%◌, ◌≤◌, ◌<◌}
use native.Mathlib.Nat.{add-zero, zero-mul, suc-mul, mul-le-mul_right, lt_of_mul-lt-mul_right}
use native.Mathlib.Omega.{arith}
use lib.ListN.{length, get_or}
use borrow.Author.Tests.{ltb-true}
use Rattle.rules.specs.Layout.{limit, entries_width, entry_at, entries_in}
use Rattle.rules.specs.View.{place_of, has, logicals, has_page, pages_from, pages_in}
use Rattle.rules.specs.Rows.{page_sum_wrong, page_wrong, pages_wrong}
use Rattle.rules.specs.declared.Index.{Index}
use Rattle.rules.specs.declared.Entry.{Entry}
use Rattle.rules.proofs.Entries.{length-logicals_entries, entry_entries, logical_entries, place_hit, place_value, either, order}
use Rattle.rules.proofs.Range.{pages_apart, pages-end-near, page-there, entry-there}
use Rattle.layout.specs.Paged.{farthest}
use Rattle.index.specs.Places.{Parted}
use Rattle.view.specs.Seen.{Seen, unowned_wrong, unowned_pages_wrong}
use Rattle.view.specs.declared.View.{View}

-- The page size and the logical addresses of a view.
abbrev pub page_size : View → ℕ
page_size v = v.index.form.page

abbrev pub addresses : List ℕ → View → List ℕ
addresses h v = logicals (entries_in h v.index)

pub length_addresses : (h : List ℕ) (v : View) → length (addresses h v) ≡ v.index.entries
length_addresses h v = length-logicals_entries v.index.form h v.index.at v.index.entries

-- ---- One entry

pub entry-room : (h : List ℕ) (v : View) → Seen h v → (place : ℕ) {e : Entry} → place < v.index.entries
    → e ≡ entry_at v.index.form h (v.index.at + entries_width v.index.form place) → e.physical + page_size v ≤ length h
entry-room h v w place {e} l q = rw (q ∙ sym (entry_entries v.index.form h v.index.at v.index.entries place l)) (w.stored place l)

-- ---- One page

module _ (h : List ℕ) (p : ℕ) (x : Index) (a : ℕ) where
  -- The index does not have it.
  pub missing-page : false ≡ has_page (entries_in h x) a → false ≡ page_wrong h p (entries_in h x) a
  unfolding page_wrong
  missing-page e = rw (← e)

  -- The index has it, at a place.
  pub stored-page : {place : ℕ} → place ≡ place_of a (logicals (entries_in h x)) → place < x.entries → {e : Entry} → e ≡ entry_at x.form h (x.at + entries_width x.form place) → page_sum_wrong h p e ≡ page_wrong h p (entries_in h x) a
  unfolding page_wrong
  stored-page ep l q = rw (page-there h x a ep l, ← entry-there h x a ep l, q)

-- ---- One that is none of the session's own

module _ (h : List ℕ) (v : View) (w : Seen h v) (place : ℕ) (there : place < v.index.entries) {e : Entry}
    (q : e ≡ entry_at v.index.form h (v.index.at + entries_width v.index.form place)) where
  -- The addresses rise, so each stands once.
  stands : place ≡ place_of (get_or (addresses h v) place 0) (addresses h v)
  stands =
      let l : place < length (addresses h v) = rw (length_addresses h v) there in
      sym (place_hit _ (addresses h v) place l refl (λ k m z. omega (arith, w.rising k place m l)))

  value : e.logical ≡ get_or (addresses h v) place 0
  value = ap (λ (y : Entry). y.logical) q ∙ sym (logical_entries v.index.form h v.index.at v.index.entries place there)

  judged : page_sum_wrong h (page_size v) e ≡ page_wrong h (page_size v) (entries_in h v.index) (get_or (addresses h v) place 0)
  judged = stored-page h (page_size v) v.index _ stands there q

  -- A page that is whole is fine, whose ever it is.
  pub whole_fine : page_sum_wrong h (page_size v) e ≡ false → false ≡ unowned_wrong h v (get_or (addresses h v) place 0)
  whole_fine g = rw (sym judged ∙ g) (sym (and-false (not (has v.own.now (get_or (addresses h v) place 0)))))

  pub owned_fine : has v.own.now e.logical ≡ true → false ≡ unowned_wrong h v (get_or (addresses h v) place 0)
  owned_fine o = rw (← value, o)

  pub unowned-page : has v.own.now e.logical ≡ false → page_sum_wrong h (page_size v) e ≡ unowned_wrong h v (get_or (addresses h v) place 0)
  unowned-page o = judged ∙ rw (← value, o)

-- ---- Several

module _ (h : List ℕ) (v : View) where
  wrong_one : (a m j : ℕ) → j < m → unowned_wrong h v (a + j * page_size v) ≡ true → unowned_pages_wrong h v (pages_from (page_size v) a m) ≡ true
  unfolding pages_wrong pages_from
  wrong_one a zero j l e = absurd (omega arith)
  wrong_one a (suc m) zero l e = let z : a + 0 * page_size v ≡ a = rw (zero-mul, add-zero) in rw (rw z at e)
  wrong_one a (suc m) (suc j) l e =
      let z : a + suc j * page_size v ≡ a + page_size v + j * page_size v = rw suc-mul (omega arith) in
      rw (wrong_one (a + page_size v) m j (omega arith) (rw z at e)) (or-true (unowned_wrong h v a))

  wrong-none : (a m : ℕ) → ((j : ℕ) → j < m → unowned_wrong h v (a + j * page_size v) ≡ false) → unowned_pages_wrong h v (pages_from (page_size v) a m) ≡ false
  unfolding pages_wrong pages_from
  wrong-none a zero f = refl
  wrong-none a (suc m) f =
      let z : a + 0 * page_size v ≡ a = rw (zero-mul, add-zero) in
      let y : (j : ℕ) → j < m → unowned_wrong h v (a + page_size v + j * page_size v) ≡ false =
      λ j l. let x : a + suc j * page_size v ≡ a + page_size v + j * page_size v = rw suc-mul (omega arith) in rw x at (f (suc j) (omega arith)) in
      rw (rw z at (f 0 (omega arith)), wrong-none (a + page_size v) m y)

  missing_fine : (a : ℕ) → has_page (entries_in h v.index) a ≡ false → unowned_wrong h v a ≡ false
  unfolding page_wrong
  missing_fine a e = rw e (and-false (not (has v.own.now a)))

-- The entries of the pages from an address on that stand ahead of a place are fine, the others are still to be checked.
pub record EntriesLeft (h : List ℕ) (v : View) (first place : ℕ) : Type 0 where
  pub fine : (k : ℕ) → k < place → first ≤ get_or (addresses h v) k 0 → unowned_wrong h v (get_or (addresses h v) k 0) ≡ false
  pub left : (k : ℕ) → place ≤ k → k < length (addresses h v) → first ≤ get_or (addresses h v) k 0

module _ {h : List ℕ} {v : View} (w : Seen h v) (first m : ℕ) {place last : ℕ} (l : EntriesLeft h v first place) (b : Parted (addresses h v) (first + m * page_size v) last last) where
  pub last_within : last ≤ v.index.entries
  last_within = omega (arith, b.within, length_addresses h v)

  module _ (more : place < last) {t : Bool} (f : t ≡ unowned_wrong h v (get_or (addresses h v) place 0)) where
    pub entries-fault : first % page_size v ≡ 0 → t ≡ true → true ≡ unowned_pages_wrong h v (pages_from (page_size v) first m)
    entries-fault z g =
        let x = get_or (addresses h v) place 0 in
        let low : first ≤ x = l.left place (omega arith) (omega (arith, b.within)) in
        let high : x < first + m * page_size v = b.below place more in
        let s : first + (x / page_size v - first / page_size v) * page_size v ≡ x = pages_apart (page_size v) first x (omega (arith, w.least)) z (w.multiple place (omega (arith, last_within))) low in
        let j : x / page_size v - first / page_size v < m = lt_of_mul-lt-mul_right (page_size v) (omega arith) in
        sym (wrong_one h v first m (x / page_size v - first / page_size v) j (rw s (sym f ∙ g)))

  pub entries-end : last ≤ place → false ≡ unowned_pages_wrong h v (pages_from (page_size v) first m)
  entries-end q = sym (wrong-none h v first m (λ j r. ⊎_elim (λ e. there j r e) (missing_fine h v (first + j * page_size v)) (either (has_page (entries_in h v.index) (first + j * page_size v)))))
    where
      there : (j : ℕ) → j < m → has_page (entries_in h v.index) (first + j * page_size v) ≡ true → unowned_wrong h v (first + j * page_size v) ≡ false
      there j r e =
          let k = place_of (first + j * page_size v) (addresses h v) in
          let c : k < length (addresses h v) = ltb-true _ _ e in
          let y : get_or (addresses h v) k 0 ≡ first + j * page_size v = place_value _ _ c in
          let u : suc j * page_size v ≤ m * page_size v = mul-le-mul_right (page_size v) r in
          let s : k < last = ⊎_elim (λ z. z) (λ z. absurd (omega (arith, b.above k (⊎_elim (λ i. omega arith) (λ i. omega arith) z) c, suc-mul j (page_size v), w.least))) (order k last) in
          rw y at (l.fine k (omega arith) (omega arith))

-- ---- The pages of a range

pub range-room : (p at n : ℕ) {m : ℕ} → m ≡ pages_in p at n → at + n ≤ limit → 16 ≤ p → p ≤ 4096 → at / p * p + m * p ≤ farthest
range-room p at n e l j k = rw e (omega (arith, pages-end-near p at n (omega arith)))
