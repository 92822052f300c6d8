-- Rows 1 to 5, part by part, and that they stay as long as the bytes that they look at stand.
use mathlib.Core.Path.{◌≡◌, refl}
use mathlib.Core.Bool.{Bool, true, false, ◌&&◌, ◌||◌, true≢false}
use mathlib.Core.List.{List}
use Prim.Native.Nat.{ℕ, ◌+◌, ◌*◌, ◌-◌, ◌%◌, ◌≤◌, ◌<◌}
use native.Mathlib.Nat.{mod-eq_of_lt}
use native.Mathlib.Omega.{arith}
use lib.Dec.{leb, ltb, eqb}
use lib.ListN.{length}
use borrow.Author.Tests.{leb-true, leb-false, ltb-false, eqb-true, not-false}
use Rattle.rules.specs.Bytes.{byte_at, part, number_at, same}
use Rattle.rules.specs.Layout.{
  page_allowed,
  limit,
  revision_limit,
  header_signature,
  whole_signature,
  version,
  version_bytes,
  address_at,
  sum_stands,
  sums_stand,
  header_width,
  form_of,
  setting_with,
  setting_of,
  committed_end,
  whole_size,
  location_width,
  location_at,
  header_end,
}
use Rattle.rules.specs.Rows.{length_wrong, header_wrong, header_sum_wrong, whole_wrong}
use Rattle.rules.specs.Calls.{header_rows}
use Rattle.rules.specs.declared.Setting.{Setting}
use Rattle.rules.proofs.Rows.{both, row-clear, then-clear}
use Rattle.rules.proofs.Places.{address_same}
use Rattle.rules.proofs.Same.{Same, part_same, sums_moved}

-- ---- Row 1

pub length-right : (least n : ℕ) → length_wrong least n ≡ false → (least ≤ n) × (n ≤ limit)
unfolding length_wrong
length-right least n e = go (ltb n least) (ltb limit n) refl refl e
  where
    go : (a b : Bool) → ltb n least ≡ a → ltb limit n ≡ b → a || b ≡ false → (least ≤ n) × (n ≤ limit)
    go true b p q e = absurd (true≢false e)
    go false true p q e = absurd (true≢false e)
    go false false p q e = (ltb-false n least p, ltb-false limit n q)

-- ---- An allowed page size

module _ (p : ℕ) (allowed : page_allowed p ≡ true) where
  pub page-least : 16 ≤ p
  unfolding page_allowed
  page-least = leb-true 16 p (both (leb 16 p) (eqb (4096 % p) 0) allowed).0

  -- A number above 4,096 does not divide it.
  pub page-most : p ≤ 4096
  unfolding page_allowed
  page-most = go (leb p 4096) refl
    where
      divides : 4096 % p ≡ 0
      divides = eqb-true (4096 % p) 0 (both (leb 16 p) (eqb (4096 % p) 0) allowed).1

      go : (b : Bool) → leb p 4096 ≡ b → p ≤ 4096
      go true e = leb-true p 4096 e
      go false e = omega (arith, divides, mod-eq_of_lt (leb-false p 4096 e))

-- ---- Rows 1, 2, 3

-- What row 2 asks ahead of the page size.
abbrev front : List ℕ → Bool
front h =
    same (part h 0 4) header_signature && eqb (byte_at h 4) (version (form_of h)) && ltb (byte_at h 5) 4 && eqb (byte_at h 6) 0
    && eqb (byte_at h 7) 0

pub record HeaderFacts (h : List ℕ) : Type 0 where
  pub front : header_width ≤ length h
  pub short : length h ≤ limit
  pub allowed : page_allowed (form_of h).page ≡ true
  pub original : number_at 8 h 12 ≤ limit

pub header_facts : (h : List ℕ) → header_rows h ≡ 0 → HeaderFacts h
unfolding header_rows header_wrong
header_facts h e =
    let a = then-clear _ _ e in
    let b = then-clear _ _ a.1 in
    let l = length-right header_width (length h) (row-clear 1 _ (omega arith) a.0) in
    let w = both (front h && page_allowed (number_at 4 h 8)) (leb (number_at 8 h 12) limit) (not-false _ (row-clear 2 _ (omega arith) b.0)) in
    record { front = l.0; short = l.1; allowed = (both (front h) (page_allowed (number_at 4 h 8)) w.0).1; original = leb-true _ _ w.1 }

-- They look at the header alone.
module _ {high : ℕ} {h h' : List ℕ} (w : Same 0 high h h') (wide : header_width ≤ high) where
  stays : (at n : ℕ) → at + n ≤ header_width → part h' at n ≡ part h at n
  stays at n l = part_same w at n (omega arith) (omega arith)

  byte : (i : ℕ) → i < header_width → byte_at h' i ≡ byte_at h i
  byte i l = w.bytes i (omega arith) (omega arith)

  pub header-same : header_rows h' ≡ header_rows h
  unfolding header_rows header_wrong header_sum_wrong sum_stands
  header-same =
      rw (
        w.long,
        stays 0 4 (omega arith),
        byte 4 (omega arith),
        byte 5 (omega arith),
        byte 6 (omega arith),
        byte 7 (omega arith),
        stays 8 4 (omega arith),
        stays 12 8 (omega arith),
        stays 0 (header_width - 4) (omega arith),
        stays (header_width - 4) 4 (omega arith),
      )

-- ---- Row 5

pub record WholeFacts (room : ℕ) (s : Setting) : Type 0 where
  pub behind : header_end s.form ≤ s.address
  pub ends : committed_end s ≤ room
  pub sized : s.size ≡ whole_size s.count
  pub few : s.count ≤ revision_limit

pub whole_facts : (h : List ℕ) (s : Setting) → whole_wrong h s ≡ false → WholeFacts (length h) s
unfolding whole_wrong
whole_facts h s e =
    let a8 = both _ _ (not-false _ e) in
    let a7 = both _ _ a8.0 in
    let a6 = both _ _ a7.0 in
    let a5 = both _ _ a6.0 in
    let a4 = both _ _ a5.0 in
    let a3 = both _ _ a4.0 in
    let a2 = both _ _ a3.0 in
    record { behind = leb-true _ _ a2.0; ends = leb-true _ _ a2.1; sized = eqb-true _ _ a3.1; few = leb-true _ _ a4.1 }

-- Its locations' checksums stand.
pub whole-summed : (h : List ℕ) (s : Setting) → whole_wrong h s ≡ false → sums_stand location_width 16 h (location_at s 1) s.count ≡ true
unfolding whole_wrong
whole-summed h s e =
    let lies = leb (header_end s.form) s.address && leb (committed_end s) (length h) && eqb s.size (whole_size s.count) && leb s.count revision_limit in
    (both (lies && same (part h s.address 4) whole_signature && same (part h (s.address + 4) 4) (version_bytes s.form) && sum_stands h s.address (s.size - 4) (s.address + (s.size - 4)))
    (sums_stand location_width 16 h (location_at s 1) s.count) (not-false _ e)).1

-- It looks at the whole history alone.
pub whole_same : {h h' : List ℕ} (s : Setting) → Same s.address (s.address + s.size) h h' → s.size ≡ whole_size s.count → whole_wrong h' s ≡ whole_wrong h s
unfolding whole_wrong sum_stands
whole_same {h} {h'} s w z =
    let stays : (at n : ℕ) → s.address ≤ at → at + n ≤ s.address + s.size → part h' at n ≡ part h at n = part_same w in
    rw (
      w.long,
      stays s.address 4 (omega arith) (omega arith),
      stays (s.address + 4) 4 (omega arith) (omega arith),
      stays s.address (s.size - 4) (omega arith) (omega arith),
      stays (s.address + (s.size - 4)) 4 (omega arith) (omega arith),
      sums_moved location_width 16 h h' (omega arith) (omega arith) s.count (location_at s 1) (location_at s 1) (stays (location_at s 1) (s.count * location_width) (omega arith) (omega arith)),
    )

-- ---- What a history says of itself

pub setting_same : {high : ℕ} {h h' : List ℕ} → Same 0 high h h' → header_width ≤ high → (setting_of h).address + 16 ≤ high → setting_of h' ≡ setting_of h
unfolding setting_of setting_with
setting_same {h = h} {h' = h'} w wide l =
    let address = address_same (form_of h) h' h 20 20 (stays w wide 20 8 (omega arith)) in
    rw (stays w wide 8 4 (omega arith), address)
    (rw (part_same w (address_at (form_of h) h 20 + 8) 8 (omega arith) (omega arith), stays w wide 12 8 (omega arith), stays w wide 28 8 (omega arith), byte w wide 5 (omega arith)))
