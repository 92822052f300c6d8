-- The searches for places: by halves among addresses that rise, by blocks and then one by one among a session's pages, and whether
-- these rise.
use mathlib.Core.Path.{◌≡◌, refl, sym, ap, ◌∙◌}
use mathlib.Core.Bool.{Bool, true, false, ◌||◌, true≢false, or-false}
use mathlib.Core.List.{List, [], ◌∷◌, ◌++◌}
use mathlib.Core.Logic.{⊎_elim}
use Prim.Native.Nat.{ℕ, suc, zero, ◌+◌, ◌-◌, ◌*◌, ◌/◌, ◌%◌, ◌≤◌, ◌<◌}
use native.Mathlib.Nat.{eq-or-lt_of_le}
use native.Mathlib.Omega.{arith}
use borrow.Author.Tests.{eq-eqb, ltb-true}
use denote.Ref.{Bor}
use lib.Dec.{ltb}
use lib.ListN.{length, take, drop, get_or, length-drop}
use lib.Seq.{length-take-le, get_or-take, get_or-drop}
use Rattle.std.specs.Prelude.{Option, None, Some, IfSome, ◌==◌, nat_lt}
use Rattle.std.specs.List.{slice_get, list_any, IsSubsliceAt, AllWithin, HoldsAt, AllAdjacentBelow}
use Rattle.std.proofs.lemmas.Option.{none-some, slice_get_cases}
use Rattle.std.specs.Iterator.Runs.{Run}
use Rattle.std.proofs.iter.runs.Made.{at-is}
use Rattle.std.proofs.lemmas.List.Folds.{list_any_at, list_any-append}
use Rattle.rules.specs.View.{place_of, has}
use Rattle.rules.proofs.Entries.{place_hit, has-nowhere, order}
use Rattle.rules.specs.Orders.{Rising}
use Rattle.index.specs.Places.{Parted, Without}

-- ---- by halves

pub part-start : (xs : List ℕ) (address high : ℕ) → high ≡ length xs → Parted xs address 0 high
part-start xs address high e = record {
  ordered = omega arith;
  within = omega arith;
  below = λ k h. absurd (omega arith);
  above = λ k h l. absurd (omega arith);
}

-- The page stands at the place that was found, or nowhere.
module _ {xs : List ℕ} {page place : ℕ} (b : Parted xs page place place) where
  pub search_hit : place < length xs → get_or xs place 0 ≡ page → place ≡ place_of page xs
  search_hit h e = sym (place_hit page xs place h e (λ k l q. omega (arith, b.below k l)))

  pub search_miss : Rising xs → (place < length xs → get_or xs place 0 ≡ page → ⊥) → false ≡ has xs page
  search_miss rising other = sym (has-nowhere xs page none)
    where
      none : (k : ℕ) → k < length xs → get_or xs k 0 ≡ page → ⊥
      none k l e = ⊎_elim
          (λ (g : k < place). omega (arith, b.below k g))
          (⊎_elim
          (λ (g : k ≡ place). other (omega arith) (rw g at e))
          (λ (g : place < k). omega (arith, rising place k g l, b.above place (omega arith) (omega arith))))
          (order k place)

-- ---- by blocks

-- One page more was compared.
pub any-more : (page : ℕ) (ys : List ℕ) (y : ℕ) (a b : Bool) → a ≡ list_any (λ own. own == page) ys → b ≡ a || (y == page) → b ≡ list_any (λ own. own == page) (ys ++ (y ∷ []))
any-more page ys y a b h e =
    let t = list_any-append (λ own. own == page) ys (y ∷ []) in
    let f = or-false (y == page) in
    cc (t, f)

-- A value that is there has what holds of it if it is there.
item : {X : Type 0} (P : X → Type 0) (xs : List X) (k : ℕ) (o : Option X) → o ≡ slice_get xs k → k < length xs → IfSome o P → (x : X) × (o ≡ Some x) × P x
item P xs k None e h p = absurd (⊎_elim (λ t. none-some t.0 (e ∙ t.2)) (λ t. omega arith) (slice_get_cases xs k).1)
item P xs k (Some x) e h p = (x, refl, p)

-- A run over blocks of sixteen, the first n of which were asked for the page and do not have it.
module _ {S : Type 0} {steps : S → Option (Bor (List ℕ)) → S → Type 0} (run : Run steps) (pages : List ℕ) (page : ℕ) where
  pub blocks-passed : ((b : ℕ) → IfSome (run.at b) (λ x. (length x.now ≡ 16) × (b * 16 + 16 ≤ length pages) × IsSubsliceAt 16 pages (b * 16) x.now))
      → (n : ℕ) → n ≤ run.len → ((b : ℕ) → b < n → IfSome (run.at b) (λ x. list_any (λ y. y == page) x.now ≡ false)) → Without pages (16 * n) page
  blocks-passed blocks n ran passed k l e =
      let b : k / 16 < n = omega arith in
      let t = item _ run.items (k / 16) (run.at (k / 16)) (at-is run (k / 16)) (omega (arith, run.long)) (blocks (k / 16)) in
      let p : list_any (λ y. y == page) t.0.now ≡ false = rw t.1 at (passed (k / 16) b) in
      let same : get_or t.0.now (k % 16) 0 ≡ get_or pages k 0 = t.2.2.2 (k % 16) 0 (omega arith) ∙ ap (λ j. get_or pages j 0) (omega arith) in
      true≢false (sym (list_any_at (λ y. y == page) t.0.now (k % 16) 0 (omega (arith, t.2.0)) (eq-eqb _ _ (same ∙ e))) ∙ p)

-- Behind the pages that were passed, one by one.
module _ (pages : List ℕ) (page n : ℕ) where
  abbrev pub rest : List ℕ
  rest = take (length pages - n) (drop n pages)

  length-rest : length rest ≡ length pages - n
  length-rest = length-take-le (length pages - n) (drop n pages) (omega (arith, length-drop n pages))

  rest-at : (i : ℕ) → n + i < length pages → get_or rest i 0 ≡ get_or pages (n + i) 0
  rest-at i h = get_or-take (length pages - n) (drop n pages) i 0 (omega arith) ∙ get_or-drop n pages i 0

  none-ahead : Without pages n page → (i : ℕ) → n + i ≤ length pages → AllWithin (λ y. y ≡ page → ⊥) rest 0 i → Without pages (n + i) page
  none-ahead passed i fits none k l q = ⊎_elim
      (λ (g : k < n). passed k g q)
      (λ g. let f : n ≤ k = ⊎_elim (λ q. omega arith) (λ q. omega arith) g in
      none (k - n) 0 (omega arith) (omega arith) (rest-at (k - n) (omega arith) ∙ ap (λ j. get_or pages j 0) (omega arith) ∙ q))
      (order k n)

  pub own_hit : n ≤ length pages → Without pages n page → (i : ℕ) → i < length rest → HoldsAt (λ y. y ≡ page) rest i → AllWithin (λ y. y ≡ page → ⊥) rest 0 i
      → (n + i ≡ place_of page pages) × (n + i < length pages)
  own_hit fits passed i h at none =
      let l : n + i < length pages = omega (arith, length-rest) in
      (sym (place_hit page pages (n + i) l (sym (rest-at i l) ∙ at 0) (none-ahead passed i (omega arith) none)), l)

  pub own_miss : n ≤ length pages → Without pages n page → AllWithin (λ y. y ≡ page → ⊥) rest 0 (length rest) → has pages page ≡ false
  own_miss fits passed none = has-nowhere pages page (λ k l. none-ahead passed (length rest) (omega (arith, length-rest)) none k (omega (arith, length-rest)))

-- ---- whether pages rise

pub pairs-rise : (xs : List ℕ) → AllAdjacentBelow (λ x y. true ≡ nat_lt x y) xs (length xs) → Rising xs
pairs-rise xs h i zero l m = absurd (omega arith)
pairs-rise xs h i (suc k) l m =
    let here : get_or xs k 0 < get_or xs (suc k) 0 = ltb-true _ _ (ap (λ j. ltb (get_or xs k 0) (get_or xs j 0)) (omega arith) ∙ sym (h k 0 (omega arith))) in
    ⊎_elim (λ (g : i ≡ k). rw g here) (λ (g : i < k). omega (arith, pairs-rise xs h i k g (omega arith))) (eq-or-lt_of_le (omega arith))
