-- The checksums of locations or entries, of which each stands beside what it is of: they are taken one by one.
use mathlib.Core.Path.{◌≡◌, refl, ap, ◌∙◌}
use mathlib.Core.List.{List, [], ◌∷◌, ◌++◌}
use Prim.Native.Nat.{ℕ, zero, suc, ◌+◌, ◌*◌, ◌/◌, ◌-◌, ◌≤◌, ◌<◌}
use native.Mathlib.Nat.{div-mul-le_self, div-eq_of_lt, add-div_left, mul-div_left, add-zero, suc-mul}
use native.Mathlib.Numerals.{add-one}
use native.Mathlib.Omega.{arith}
use lib.ListN.{length, take, drop, get_or, length-append, length-take, length-drop}
use lib.Seq.{take_at, drop_at, take-take, drop-drop}
use Rattle.std.specs.List.{list_all}
use Rattle.std.proofs.lemmas.List.{drop-take}
use Rattle.rules.proofs.Bytes.{slice-part, length_part, part-part}
use Rattle.std.specs.Slice.Iter.{chunks_exact_rest, chunks_exact_size, chunks_exact_steps}
use Rattle.std.specs.declared.slice.ChunksExact.{ChunksExact}
use Rattle.std.proofs.lemmas.Iterator.{YieldsList}
use Rattle.std.proofs.lemmas.Iterator.Splits.{YieldsList-from_shown_while}
use Rattle.rules.specs.Bytes.{part}
use Rattle.rules.specs.Layout.{sum_stands, sums_stand}

-- The first n parts of a width.
abbrev pub chunks : ℕ → ℕ → List ℕ → List (List ℕ)
chunks w zero xs = []
chunks w (suc n) xs = take w xs ∷ chunks w n (drop w xs)

-- Each is as long as the width, and within the whole.
chunks-within : (w n : ℕ) (xs : List ℕ) (k : ℕ) (d : List ℕ) → n * w ≤ length xs → k < length (chunks w n xs) → (length (get_or (chunks w n xs) k d) ≡ w) × (w ≤ length xs)
chunks-within w zero xs k d room h = absurd (omega arith)
chunks-within w (suc n) xs zero d room h = let s = suc-mul n w in (simp length-take (omega arith), omega arith)
chunks-within w (suc n) xs (suc k) d room h =
    let s = suc-mul n w in
    let r = chunks-within w n (drop w xs) k d (simp length-drop (omega arith)) (omega arith) in
    (r.0, omega arith)

pub chunk-within : (w : ℕ) (xs x : List ℕ) (k : ℕ) → k < length (chunks w (length xs / w) xs) → x ≡ get_or (chunks w (length xs / w) xs) k x → (length x ≡ w) × (length x ≤ length xs)
chunk-within w xs x k h e =
    let r = chunks-within w (length xs / w) xs k x (div-mul-le_self (length xs) w) h in
    let l : length x ≡ w = ap length e ∙ r.0 in
    (l, omega (arith, r.1))

module _ (w : ℕ) (some : 0 < w) where
  cut : (xs x rest : List ℕ) → xs ≡ x ++ rest → length x ≡ w → chunks w (length xs / w) xs ≡ x ∷ chunks w (length rest / w) rest
  cut xs x rest e l = rw (e, length-append, l, add-div_left (length rest) some, add-one, take_at x rest w l, drop_at x rest w l)

  -- The library cuts the whole parts off one by one.
  pub chunks-yielded : (s : ChunksExact ℕ) → chunks_exact_size s ≡ w
      → YieldsList chunks_exact_steps (λ x. x.now) s (chunks w (length (chunks_exact_rest s) / w) (chunks_exact_rest s))
  chunks-yielded s e =
      YieldsList-from_shown_while chunks_exact_steps (λ x. x.now) (λ t. chunks w (length (chunks_exact_rest t) / w) (chunks_exact_rest t)) (λ t. chunks_exact_size t ≡ w)
      (λ s t e h. let l : length (chunks_exact_rest s) < w = omega (arith, e, h.1.0) in rw (div-eq_of_lt l))
      (λ s x t e h. (h.0 ∙ e, cut _ _ _ h.1.0 (h.1.1 ∙ e)))
      s e

-- At an offset in each part stands the checksum of its first 16 bytes.
module _ (w o : ℕ) (long : 16 ≤ w) (inside : o + 4 ≤ w) where
  one : (h : List ℕ) (at : ℕ) → sum_stands (part h at w) 0 16 o ≡ sum_stands h at 16 (at + o)
  unfolding sum_stands
  one h at = rw (part-part h at w o 4 inside, part-part h at w 0 16 long, add-zero)

  each : (h : List ℕ) (at n : ℕ) → list_all (λ p. sum_stands p 0 16 o) (chunks w n (part h at (n * w))) ≡ sums_stand w o h at n
  unfolding sums_stand
  each h at zero = refl
  each h at (suc n) =
      let e : suc n * w ≡ w + n * w = omega (arith, suc-mul n w) in
      let l : w ≤ w + n * w = omega arith in
      rw (e, take-take w (w + n * w) (drop at h) l, drop-take, drop-drop, one h at, each h (at + w) n)

  pub sums-all : (h : List ℕ) (at n : ℕ) {rest : List ℕ} → at + n * w ≤ length h → rest ≡ take (at + n * w - at) (drop at h)
      → list_all (λ p. sum_stands p 0 16 o) (chunks w (length rest / w) rest) ≡ sums_stand w o h at n
  sums-all h at n room e =
      let some : 0 < w = omega arith in
      rw (e, slice-part, length_part h at (n * w) room, mul-div_left n some) (each h at n)
