-- The pages and entries that a write would leave, counted by runs of new pages (rows 14 and 15).
use mathlib.Core.Path.{◌≡◌, refl, sym, ap, ◌∙◌}
use mathlib.Core.Bool.{Bool, true, false, cond, ◌||◌, or-false, or-true}
use mathlib.Core.List.{List, [], ◌∷◌, ◌++◌}
use mathlib.Core.Logic.{⊎_elim}
use Prim.Native.Nat.{ℕ, zero, suc, ◌+◌, ◌*◌, ◌-◌, ◌/◌, ◌≤◌, ◌<◌}
use native.Mathlib.Nat.{add-zero, zero-mul, add-mul, suc-mul, mul-le-mul_right, lt_of_mul-lt-mul_right, div-add-mod'}
use native.Mathlib.Numerals.{add-one}
use native.Mathlib.Omega.{arith}
use lib.ListN.{length, get_or}
use borrow.Author.Count.{below_more}
use Rattle.rules.specs.Layout.{entry_limit, touch_limit}
use Rattle.rules.specs.Orders.{Rising}
use Rattle.rules.specs.View.{has, logicals, has_page, pages_from}
use Rattle.rules.specs.Session.{touching, merged_count}
use Rattle.rules.specs.declared.Entry.{Entry}
use Rattle.rules.proofs.Entries.{has-at, has-nowhere, order, length-touching}
use Rattle.rules.proofs.Rising.{count-touching}
use Rattle.rules.proofs.Range.{page_lies, pages-behind, next-none, touching_range}
use Rattle.index.specs.Places.{Parted}
use Rattle.touching.specs.Pages.{AllNew, Counted, missing}

-- ---- The pages that the index does not have

missing_run : (index : List Entry) (p first k j : ℕ) → ((i : ℕ) → i < j → has_page index (first + (k + i) * p) ≡ false) → missing index p first (k + j) ≡ missing index p first k + j
unfolding missing
missing_run index p first k zero none = rw (add-zero k) (sym (add-zero (missing index p first k)))
missing_run index p first k (suc j) none =
    let e : k + suc j ≡ suc (k + j) = omega arith in
    rw (e, none j (omega arith)) (omega (arith, missing_run index p first k j (λ i l. none i (omega arith))))

-- The pages from page k on that lie ahead of an address.
module _ (p first k next : ℕ) (l : first + k * p < next) where
  abbrev pub ahead : ℕ
  ahead = (next - (first + k * p) - 1) / p + 1

  pub page-ahead : (i : ℕ) → i < ahead → first + (k + i) * p < next
  page-ahead i h =
      let q : i * p ≤ (next - (first + k * p) - 1) / p * p = mul-le-mul_right p (omega arith) in
      omega (arith, add-mul k i p, div-add-mod' (next - (first + k * p) - 1) p)

  pub ahead_within : (m : ℕ) → next < first + m * p → k + ahead ≤ m
  ahead_within m h =
      let d = (next - (first + k * p) - 1) / p in
      let b : (k + d) * p < m * p = omega (arith, add-mul k d p, div-add-mod' (next - (first + k * p) - 1) p) in
      omega (arith, lt_of_mul-lt-mul_right p b)

-- After k of m pages, with the entries ahead of a place passed.
pub record Passing (index : List Entry) (p first m k place count : ℕ) : Type 0 where
  pub within : k ≤ m
  pub small : count ≤ k
  pub passed : (i : ℕ) → i < place → get_or (logicals index) i 0 < first + k * p
  pub counts : count ≡ missing index p first k

pub passing-start : (index : List Entry) (p first m : ℕ) {place : ℕ} → Parted (logicals index) first place place → Passing index p first m 0 place 0
unfolding missing
passing-start index p first m b =
    record { within = omega arith; small = omega arith; passed = λ i l. rw (zero-mul, add-zero) (b.below i l); counts = refl }

-- No page is left,
pub passing-end : {index : List Entry} {p first m k place count : ℕ} → Passing index p first m k place count → m ≤ k → count + (m - k) ≡ missing index p first m
passing-end {index} {p} {first} {m} {k} c l =
    let e : k ≡ m = omega (arith, c.within) in
    omega (arith, c.counts, ap (missing index p first) e)

module _ {index : List Entry} {p first m k place count : ℕ} (c : Passing index p first m k place count) (rising : Rising (logicals index)) where
  -- A page behind the passed entries and ahead of the next has no entry.
  absent : (a : ℕ) → first + k * p ≤ a → (place < length (logicals index) → a < get_or (logicals index) place 0) → has_page index a ≡ false
  absent a low high =
      has-nowhere (logicals index) a
      (λ i l e. ⊎_elim
      (λ (u : i < place). omega (arith, c.passed i u))
      (⊎_elim
      (λ (u : i ≡ place). omega (arith, high (omega arith), ap (λ (z : ℕ). get_or (logicals index) z 0) u))
      (λ (u : place < i). omega (arith, high (omega arith), rising place i u l)))
      (order i place))

  -- Pages that none of the entries has are counted.
  pass : (j : ℕ) → ((i : ℕ) → i < j → place < length (logicals index) → first + (k + i) * p < get_or (logicals index) place 0) → missing index p first (k + j) ≡ count + j
  pass j high = missing_run index p first k j (λ i q. absent (first + (k + i) * p) (omega (arith, add-mul k i p)) (high i q)) ∙ omega (arith, c.counts)

  -- or no entry is left that is not behind all pages,
  pub passing_rest : 0 < p → (place < length (logicals index) → first + m * p ≤ get_or (logicals index) place 0) → count + (m - k) ≡ missing index p first m
  passing_rest pos past =
      let e : k + (m - k) ≡ m = omega (arith, c.within) in
      sym (rw e at (pass (m - k) (λ i q h. omega (arith, past h, page_lies (k + i) m p (omega arith)))))

  -- or the next one lies behind some pages,
  pub passing-ahead : (j : ℕ) → k + j ≤ m → ((i : ℕ) → i < j → first + (k + i) * p < get_or (logicals index) place 0) → Passing index p first m (k + j) place (count + j)
  passing-ahead j l high = record {
    within = l;
    small = omega (arith, c.small);
    passed = λ i q. omega (arith, c.passed i q, add-mul k j p);
    counts = sym (pass j (λ i q h. high i q));
  }

  -- or it is this one's.
  pub passing-at : place < length (logicals index) → 0 < p → k < m → get_or (logicals index) place 0 ≡ first + k * p → Passing index p first m (k + 1) (place + 1) count
  unfolding missing
  passing-at there pos l e =
      let more : (k + 1) * p ≡ k * p + p = rw (add-one k) (suc-mul k p) in
      record {
        within = omega arith;
        small = omega (arith, c.small);
        passed = below_more _ place (λ i q. omega (arith, c.passed i q)) (omega arith);
        counts = rw (add-one k, has-at (logicals index) place (first + k * p) there e) (omega (arith, c.counts));
      }

-- ---- The pages and entries

one-most : (b : Bool) → cond b 0 1 ≤ 1
one-most true = omega arith
one-most false = omega arith

module _ (index : List Entry) (own : List ℕ) (p first : ℕ) where
  -- After k of m pages, with the counts that these would leave.
  pub record Counting (m a k touched merged : ℕ) : Type 0 where
    pub within : k ≤ m
    pub spot : a ≡ first + k * p
    pub few : touched ≤ touch_limit + 1
    pub less : merged ≤ entry_limit + touched
    pub pages : touched ≡ length (touching own (pages_from p first k))
    pub entries : merged ≡ merged_count index (touching own (pages_from p first k))

  pub counting-start : (m : ℕ) {touched merged : ℕ} → touched ≡ length own → touched ≤ touch_limit → merged ≡ merged_count index own → merged ≤ entry_limit + touched → Counting m first 0 touched merged
  unfolding pages_from touching
  counting-start m e l f g = record { within = omega arith; spot = rw (zero-mul, add-zero); few = omega arith; less = g; pages = e; entries = f }

  module _ {m a k touched merged : ℕ} (c : Counting m a k touched merged) (more : k < m) (rising : Rising (logicals index)) (pos : 0 < p) where
    none : has (pages_from p first k) a ≡ false
    none = rw c.spot (next-none p first k pos)

    behind : pages_from p first (k + 1) ≡ pages_from p first k ++ (a ∷ [])
    behind = pages-behind p first k c.spot

    longer : length (touching own (pages_from p first (k + 1))) ≡ touched + cond (has own a) 0 1
    longer = rw behind (length-touching own (pages_from p first k) a ∙ rw (none, or-false (has own a), ← c.pages))

    larger : merged_count index (touching own (pages_from p first (k + 1))) ≡ merged + cond (has_page index a || has own a) 0 1
    larger = rw behind (count-touching index own (pages_from p first k) a rising ∙ rw (none, or-false (has own a), ← c.entries))

    on : a + p ≡ first + (k + 1) * p
    on = rw (add-one k, suc-mul) (omega (arith, c.spot))

    pub counting_own : has own a ≡ true → Counting m (a + p) (k + 1) touched merged
    counting_own t = record {
      within = omega arith;
      spot = on;
      few = c.few;
      less = c.less;
      pages = sym (longer ∙ rw t (add-zero touched));
      entries = sym (larger ∙ rw (t, or-true (has_page index a)) (add-zero merged));
    }

    -- A new page is an entry more, unless the index has it.
    counting_new : touched ≤ touch_limit → has own a ≡ false → Counting m (a + p) (k + 1) (touched + 1) (merged + cond (has_page index a) 0 1)
    counting_new l t = record {
      within = omega arith;
      spot = on;
      few = omega arith;
      less = omega (arith, c.less, one-most (has_page index a));
      pages = sym (longer ∙ rw t);
      entries = sym (larger ∙ rw (t, or-false (has_page index a)));
    }

  moved : {m a a' k k' touched touched' merged merged' : ℕ} → a' ≡ a → k' ≡ k → touched' ≡ touched → merged' ≡ merged → Counting m a k touched merged → Counting m a' k' touched' merged'
  moved e f g h c = rw (e, f, g, h) c

  -- Several new pages.
  module _ {m a k touched merged : ℕ} (c : Counting m a k touched merged) (rising : Rising (logicals index)) (pos : 0 < p) where
    run_none : Counting m (a + 0 * p) (k + 0) (touched + 0) (merged + missing index p a 0)
    unfolding missing
    run_none = moved (rw zero-mul (add-zero a)) (add-zero k) (add-zero touched) (add-zero merged) c

    run_more : (j : ℕ) → Counting m (a + j * p) (k + j) (touched + j) (merged + missing index p a j) → k + suc j ≤ m → touched + j ≤ touch_limit → has own (a + j * p) ≡ false
        → Counting m (a + suc j * p) (k + suc j) (touched + suc j) (merged + missing index p a (suc j))
    unfolding missing
    run_more j v l few t = moved (omega (arith, suc-mul j p)) (omega arith) (omega arith) (omega arith) (counting_new v (omega arith) rising pos few t)

    pub counting_run : (j : ℕ) → k + j ≤ m → touched + j ≤ touch_limit + 1 → AllNew own p a j → Counting m (a + j * p) (k + j) (touched + j) (merged + missing index p a j)
    counting_run zero l few new = run_none
    counting_run (suc j) l few new = run_more j (counting_run j (omega arith) (omega arith) (λ i q. new i (omega arith))) l (omega arith) (new j (omega arith))

module _ {index : List Entry} {own : List ℕ} {p first m a k touched merged : ℕ} (c : Counting index own p first m a k touched merged) where
  pub counted_past : touch_limit < touched → Counted index own (pages_from p first m) touched merged
  counted_past l = record {
    over = λ q. omega (arith, c.pages, touching_range own p first k m c.within);
    exact = λ q. absurd (omega arith);
  }

pub counting-room : {index : List Entry} {own : List ℕ} {p first m a k touched merged : ℕ} → Counting index own p first m a k touched merged → (j : ℕ) → k + j ≤ m → a + j * p ≤ first + m * p
counting-room {p = p} {k = k} c j l = omega (arith, c.spot, mul-le-mul_right p l, add-mul k j p)
