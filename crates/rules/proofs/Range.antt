-- The page that a byte lies in, the pages of a range, where a page stands in an index, and pages touched one after the other.
use mathlib.Core.Path.{◌≡◌, refl, sym, ap, ◌∙◌}
use mathlib.Core.Bool.{Bool, true, false, cond}
use mathlib.Core.List.{List, [], ◌∷◌, ◌++◌}
use mathlib.Core.Logic.{⊎_elim}
use Prim.Native.Nat.{ℕ, zero, suc, ◌+◌, ◌*◌, ◌-◌, ◌/◌, ◌%◌, ◌≤◌, ◌<◌, max}
use native.Mathlib.Nat.{
  add-zero,
  zero-add,
  zero-mul,
  one-mul,
  suc-mul,
  add-mul,
  mul-le-mul_right,
  lt_of_mul-lt-mul_right,
  div-add-mod',
  le-div_iff_mul-le,
  add-mul-div_right,
  add-mul-mod_self_right,
  div-eq_of_lt,
  mod-eq_of_lt,
  mul-mod_left,
  mod-lt,
}
use native.Mathlib.Numerals.{add-one}
use native.Mathlib.Omega.{arith}
use lib.Dec.{leb}
use lib.ListN.{length, take, set, get_or, length-append, length-set}
use lib.Seq.{length-take-le, take-length, take-append_seam, take-take, take-suc, take-set-le, get_or-set_same}
use borrow.Author.Tests.{lt-ltb, leb-true, leb-false}
use Rattle.rules.specs.Layout.{entries_width, entry_at, entries_in}
use Rattle.rules.specs.View.{place_of, has, logicals, has_page, entry_of, page_of, own_pages, pages_from, pages_in}
use Rattle.rules.specs.Session.{with_page, touching}
use Rattle.rules.specs.declared.Index.{Index}
use Rattle.rules.specs.declared.State.{State}
use Rattle.rules.proofs.Entries.{length-logicals_entries, entry_entries, either, place-append, has-nowhere}

-- ---- the page that a byte lies in

-- Offsets in one page.
pub page_of_lem : (p from j : ℕ) → 0 < p → from % p + j < p → (page_of p (from + j) ≡ page_of p from) × ((from + j) % p ≡ from % p + j)
page_of_lem p from j h l =
    let e : from + j ≡ from % p + j + from / p * p = omega (arith, div-add-mod' from p) in
    rw e
    (rw (add-mul-div_right (from % p + j) (from / p) h, div-eq_of_lt l, zero-add) refl, rw add-mul-mod_self_right (mod-eq_of_lt l))

-- A page's address is a multiple of the page size.
pub page-multiple : (p i : ℕ) → page_of p i % p ≡ 0
page-multiple p i = mul-mod_left (i / p) p

-- The bytes of the page at an address.
pub page-at : (p a j : ℕ) → a % p ≡ 0 → j < p → (page_of p (a + j) ≡ a) × ((a + j) % p ≡ j)
page-at p a j m l =
    let z = page_of_lem p a j (omega arith) (omega arith) in
    (omega (arith, z.0, div-add-mod' a p), omega (arith, z.1))

-- Multiples lie a page apart: of two the higher is some pages further on.
pub multiples : (p x y : ℕ) → x % p ≡ 0 → y % p ≡ 0 → x < y → x + p ≤ y
multiples p x y f g l =
    let a : x / p * p ≡ x = omega (arith, div-add-mod' x p) in
    let b : y / p * p ≡ y = omega (arith, div-add-mod' y p) in
    let c : x / p < y / p = lt_of_mul-lt-mul_right p (omega arith) in
    let d : suc (x / p) * p ≤ y / p * p = mul-le-mul_right p c in
    omega (arith, suc-mul (x / p) p)

pub pages_apart : (p x y : ℕ) → 0 < p → x % p ≡ 0 → y % p ≡ 0 → x ≤ y → x + (y / p - x / p) * p ≡ y
pages_apart p x y h f g l =
    let a : x / p * p ≡ x = omega (arith, div-add-mod' x p) in
    let b : y / p * p ≡ y = omega (arith, div-add-mod' y p) in
    let c : x / p ≤ y / p = (le-div_iff_mul-le h).1 (omega arith) in
    let d : x / p + (y / p - x / p) ≡ y / p = omega arith in
    let e : y / p * p ≡ x / p * p + (y / p - x / p) * p = ap (λ (n : ℕ). n * p) (sym d) ∙ add-mul (x / p) (y / p - x / p) p in
    omega arith

-- Page i of n pages that lie one behind the other ends within them.
pub page_lies : (i n p : ℕ) → i < n → i * p + p ≤ n * p
page_lies i n p h = rw (← suc-mul) (mul-le-mul_right p h)

-- ---- pages from an address on

pages-append : (p a k j : ℕ) → pages_from p a (k + j) ≡ pages_from p a k ++ pages_from p (a + k * p) j
unfolding pages_from
pages-append p a zero j = let e : a + 0 * p ≡ a = rw (zero-mul, add-zero) in let f : 0 + j ≡ j = omega arith in rw (e, f)
pages-append p a (suc k) j =
    let e : a + p + k * p ≡ a + suc k * p = omega (arith, suc-mul k p) in
    let f : suc k + j ≡ suc (k + j) = omega arith in
    rw f (ap (λ (l : List ℕ). a ∷ l) (pages-append p (a + p) k j ∙ rw e))

length-pages : (p a k : ℕ) → length (pages_from p a k) ≡ k
unfolding pages_from
length-pages p a zero = refl
length-pages p a (suc k) = rw (length-pages p (a + p) k)

page_from : (p a k i : ℕ) → i < k → get_or (pages_from p a k) i 0 ≡ a + i * p
unfolding pages_from
page_from p a zero i l = absurd (omega arith)
page_from p a (suc k) zero l = sym (rw (zero-mul, add-zero))
page_from p a (suc k) (suc i) l = page_from p (a + p) k i (omega arith) ∙ omega (arith, suc-mul i p)

-- One page more behind the others, which is none of them.
pub pages-behind : (p first k : ℕ) {a : ℕ} → a ≡ first + k * p → pages_from p first (k + 1) ≡ pages_from p first k ++ (a ∷ [])
unfolding pages_from
pages-behind p first k e = pages-append p first k 1 ∙ rw e

pub next-none : (p first k : ℕ) → 0 < p → has (pages_from p first k) (first + k * p) ≡ false
next-none p first k pos =
    has-nowhere (pages_from p first k) (first + k * p)
    (λ i l e.
    let q : i < k = rw (length-pages p first k) at l in
    let r : suc i * p ≤ k * p = mul-le-mul_right p q in
    omega (arith, page_from p first k i q, suc-mul i p))

-- ---- the pages of a range

pub pages-none : (p at n : ℕ) → n ≡ 0 → 0 ≡ pages_in p at n
unfolding pages_in
pages-none p at n e = rw e

pub pages_some : (p at n : ℕ) → (n ≡ 0 → ⊥) → (at + (n - 1)) / p - at / p + 1 ≡ pages_in p at n
unfolding pages_in
pages_some p at zero h = absurd (h refl)
pages_some p at (suc n) h = let e : suc n - 1 ≡ n = omega arith in rw e

pub pages_order : (p at m : ℕ) → 0 < p → at / p ≤ (at + m) / p
pages_order p at m h = (le-div_iff_mul-le h).1 (omega (arith, div-add-mod' at p))

-- The first page starts at or ahead of the range, and the last ends less than a page behind it.
span : (a b p : ℕ) (t : Bool) → leb b a ≡ t → b * p + (a - b + 1) * p ≤ max (a * p + p) (b * p + p)
span a b p true e =
    let l = leb-true b a e in
    let c : b + (a - b + 1) ≡ suc a = omega arith in
    let d : b * p + (a - b + 1) * p ≡ a * p + p = sym (add-mul b (a - b + 1) p) ∙ rw (c, suc-mul) in
    omega arith
span a b p false e =
    let l = leb-false b a e in
    let c : a - b + 1 ≡ 1 = omega arith in
    rw (c, one-mul) (omega arith)

pub pages-end-near : (p at n : ℕ) → 0 < p → at / p * p + pages_in p at n * p < at + n + p
unfolding pages_in
pages-end-near p at zero l = rw zero-mul (omega (arith, div-add-mod' at p))
pages-end-near p at (suc n) l = omega (arith, span ((at + n) / p) (at / p) p (leb (at / p) ((at + n) / p)) refl, div-add-mod' (at + n) p, div-add-mod' at p)

-- The pages of a range that has bytes reach to its end.
pub pages_reach : (p at n : ℕ) → 0 < p → 0 < n → at + n ≤ page_of p at + pages_in p at n * p
unfolding pages_in
pages_reach p at zero pos some = absurd (omega arith)
pages_reach p at (suc n) pos some =
    let c : at / p + ((at + n) / p - at / p + 1) ≡ suc ((at + n) / p) = omega (arith, pages_order p at n pos) in
    let d : at / p * p + ((at + n) / p - at / p + 1) * p ≡ (at + n) / p * p + p = sym (add-mul (at / p) ((at + n) / p - at / p + 1) p) ∙ rw (c, suc-mul) in
    omega (arith, div-add-mod' (at + n) p, mod-lt (at + n) pos)

-- ---- where a page stands in an index

module _ (h : List ℕ) (x : Index) (a : ℕ) {place : ℕ} (e : place ≡ place_of a (logicals (entries_in h x))) where
  pub page-there : place < x.entries → has_page (entries_in h x) a ≡ true
  page-there l = rw (← e, length-logicals_entries x.form h x.at x.entries) (lt-ltb place x.entries l)

  pub entry-there : place < x.entries → entry_at x.form h (x.at + entries_width x.form place) ≡ entry_of (entries_in h x) a
  entry-there l = rw (← e) (sym (entry_entries x.form h x.at x.entries place l))

-- ---- a session's own pages

pub own-length : (st : State) → st.n ≤ length st.pages → length (own_pages st) ≡ st.n
own-length st l = length-take-le st.n st.pages l

-- One page more.
pub own_more : (st : State) (a : ℕ) → st.n < length st.pages → own_pages (with_page st a) ≡ own_pages st ++ (a ∷ [])
own_more st a l =
    let q : st.n < length (set st.pages st.n a) = rw (length-set st.pages st.n a) l in
    rw (add-one st.n, take-suc (set st.pages st.n a) st.n 0 q, take-set-le st.n st.pages st.n a (omega arith), get_or-set_same st.pages st.n a 0 l)

-- ---- pages touched

-- In two goes.
touching-append : (own xs ys : List ℕ) → touching own (xs ++ ys) ≡ touching (touching own xs) ys
unfolding touching
touching-append own [] ys = refl
touching-append own (x ∷ xs) ys = touching-append (cond (has own x) own (own ++ (x ∷ []))) xs ys

-- Pages that were there stay, each at its place.
pub touching_grows : (own pages : List ℕ) → length own ≤ length (touching own pages)
unfolding touching
touching_grows own [] = omega arith
touching_grows own (a ∷ pages) =
    ⊎_elim
    (λ (t : has own a ≡ true). rw t (touching_grows own pages))
    (λ (t : has own a ≡ false). rw t (omega (arith, touching_grows (own ++ (a ∷ [])) pages, length-append own (a ∷ []))))
    (either (has own a))

pub touching-front : (own pages : List ℕ) → take (length own) (touching own pages) ≡ own
unfolding touching
touching-front own [] = take-length own
touching-front own (a ∷ pages) =
    ⊎_elim
    (λ (t : has own a ≡ true). rw t (touching-front own pages))
    (λ (t : has own a ≡ false).
    let more : List ℕ = own ++ (a ∷ []) in
    let l : length own ≤ length more = rw (length-append own (a ∷ [])) (omega arith) in
    rw t (sym (take-take (length own) (length more) (touching more pages) l) ∙ rw (touching-front more pages) (take-append_seam own (a ∷ []))))
    (either (has own a))

pub place-touching : (a : ℕ) (own pages : List ℕ) → place_of a own < length own → place_of a (touching own pages) ≡ place_of a own
unfolding touching
place-touching a own [] l = refl
place-touching a own (b ∷ pages) l = ⊎_elim
    (λ (t : has own b ≡ true). rw t (place-touching a own pages l))
    (λ (t : has own b ≡ false).
    let e : place_of a (own ++ (b ∷ [])) ≡ place_of a own = place-append a own (b ∷ []) l in
    rw t (place-touching a (own ++ (b ∷ [])) pages (omega (arith, length-append own (b ∷ []))) ∙ e))
    (either (has own b))

-- One that was not there is one more.
pub touching_new : (own : List ℕ) (a : ℕ) (pages : List ℕ) → has own a ≡ false → length own + 1 ≤ length (touching own (a ∷ pages))
unfolding touching
touching_new own a pages t = rw t (omega (arith, touching_grows (own ++ (a ∷ [])) pages, length-append own (a ∷ [])))

-- Those of a range, of which some were touched, are at least these.
pub touching_range : (own : List ℕ) (p first k m : ℕ) → k ≤ m → length (touching own (pages_from p first k)) ≤ length (touching own (pages_from p first m))
touching_range own p first k m l =
    let e : k + (m - k) ≡ m = omega arith in
    let f : pages_from p first m ≡ pages_from p first k ++ pages_from p (first + k * p) (m - k) = rw e at (pages-append p first k (m - k)) in
    rw (f, touching-append own (pages_from p first k) (pages_from p (first + k * p) (m - k))) (touching_grows (touching own (pages_from p first k)) _)
