-- The pages of a session, judged one by one.
use mathlib.Core.Path.{◌≡◌, refl, sym, ◌∙◌}
use mathlib.Core.Bool.{Bool, false, not, ◌&&◌}
use mathlib.Core.List.{List, [], ◌∷◌}
use Prim.Native.Nat.{ℕ, ◌+◌, ◌%◌, ◌<◌}
use native.Mathlib.Nat.{add-zero}
use native.Mathlib.Omega.{arith}
use lib.Dec.{ltb, eqb}
use lib.ListN.{length, drop, get_or, length-drop}
use lib.Seq.{drop-drop, get_or-drop}
use Rattle.std.specs.List.{list_all, enumerate_from}
use Rattle.rules.specs.Orders.{Rising}
use Rattle.rules.specs.View.{has}
use Rattle.rules.specs.Rows.{pages_fit}
use Rattle.rules.proofs.Entries.{has-nowhere}

-- A page ahead of others that rise does not come again among them.
pub again-rising : (pages : List ℕ) (k : ℕ) → k < length pages → Rising pages → false ≡ has (drop (k + 1) pages) (get_or pages k 0)
again-rising pages k l rising = sym (has-nowhere (drop (k + 1) pages) (get_or pages k 0) apart)
  where
    apart : (i : ℕ) → i < length (drop (k + 1) pages) → get_or (drop (k + 1) pages) i 0 ≡ get_or pages k 0 → ⊥
    apart i m q =
        let b : k + 1 + i < length pages = omega (arith, length-drop (k + 1) pages) in
        omega (arith, rising k (k + 1 + i) (omega arith) b, get_or-drop (k + 1) pages i 0)

module _ (p size : ℕ) (pages : List ℕ) where
  -- What each page is asked, by its place.
  abbrev pub page_fits : ℕ × ℕ → Bool
  page_fits (k, a) = not (has (drop (k + 1) pages) (get_or pages k 0)) && eqb (a % p) 0 && ltb a size

  fits_from : (k : ℕ) (rest : List ℕ) → rest ≡ drop k pages → list_all page_fits (enumerate_from k rest) ≡ pages_fit p size rest
  unfolding pages_fit
  fits_from k [] e = refl
  fits_from k (a ∷ rest) e =
      let d : drop (k + 1) pages ≡ rest = sym (drop-drop 1 k pages) ∙ rw (← e) in
      let g : get_or pages k 0 ≡ a = rw add-zero at (sym (get_or-drop k pages 0 0)) ∙ rw (← e) in
      rw (d, g) (rw (fits_from (k + 1) rest (sym d)))

  pub all-fit : list_all page_fits (enumerate_from 0 pages) ≡ pages_fit p size pages
  all-fit = fits_from 0 pages refl
