-- Two histories that agree on a stretch of bytes: what the layout reads there is the same.
use mathlib.Core.Path.{◌≡◌, refl, sym, ◌∙◌}
use mathlib.Core.Bool.{◌&&◌, and-true, and_assoc}
use mathlib.Core.List.{List}
use Prim.Native.Nat.{ℕ, zero, suc, ◌+◌, ◌*◌, ◌≤◌, ◌<◌}
use native.Mathlib.Nat.{zero-mul, suc-mul}
use native.Mathlib.Omega.{arith}
use lib.ListN.{length, length-take, length-drop}
use lib.Seq.{ext_get_or}
use Rattle.rules.specs.Bytes.{byte_at, part, number_at}
use Rattle.rules.specs.Layout.{
  sum_stands,
  sums_stand,
  address_at,
  entry_sum_at,
  entry_width,
  entries_width,
  entry_count_at,
  name_size_at,
  comment_size_at,
  front_width,
  count_at,
  whole_size,
  located_size,
  location_at,
  entries_at,
  record_at,
}
use Rattle.rules.specs.Rows.{record_fields}
use Rattle.rules.specs.declared.Form.{Form}
use Rattle.rules.specs.declared.Setting.{Setting}
use Rattle.rules.specs.declared.Record.{Record}
use Rattle.rules.proofs.Bytes.{byte-part, part-part}
use Rattle.rules.proofs.Places.{count-least, entry-least, entries_next, address_same, page-sum-same}

-- ---- a stretch

pub record Same (low high : ℕ) (h h' : List ℕ) : Type 0 where
  pub long : length h' ≡ length h
  pub bytes : (i : ℕ) → low ≤ i → i < high → byte_at h' i ≡ byte_at h i

-- A stretch within it, and one history after the other.
pub same-within : {low high : ℕ} {h h' : List ℕ} (low' high' : ℕ) → Same low high h h' → low ≤ low' → high' ≤ high → Same low' high' h h'
same-within low' high' w l m = record { long = w.long; bytes = λ i a b. w.bytes i (omega arith) (omega arith) }

pub same_then : {low high : ℕ} {h h' h'' : List ℕ} → Same low high h h' → Same low high h' h'' → Same low high h h''
same_then v w = record { long = w.long ∙ v.long; bytes = λ i a b. w.bytes i a b ∙ v.bytes i a b }

pub part_same : {low high : ℕ} {h h' : List ℕ} → Same low high h h' → (at n : ℕ) → low ≤ at → at + n ≤ high → part h' at n ≡ part h at n
part_same {h = h} {h' = h'} w at n l m =
    ext_get_or 0 (part h' at n) (part h at n) (simp (length-take, length-drop) (rw w.long))
    (λ i k.
    let short : length (part h' at n) ≤ n = rw length-take (omega arith) in
    byte-part h' at n i (omega arith) ∙ w.bytes (at + i) (omega arith) (omega arith) ∙ sym (byte-part h at n i (omega arith)))

-- ---- the same bytes at two places

pub part-inside : (h h' : List ℕ) (at to m : ℕ) → part h' to m ≡ part h at m → (k n : ℕ) → k + n ≤ m → part h' (to + k) n ≡ part h (at + k) n
part-inside h h' at to m e k n l = sym (part-part h' to m k n l) ∙ rw e (part-part h at m k n l)

pub part-front : (h h' : List ℕ) (at to m : ℕ) → part h' to m ≡ part h at m → (n : ℕ) → n ≤ m → part h' to n ≡ part h at n
part-front h h' at to m e n l =
    let none : (x : ℕ) → x + 0 ≡ x = λ x. omega arith in
    rw (none to, none at) at (part-inside h h' at to m e 0 n (omega arith))

pub number_moved : (w : ℕ) (h h' : List ℕ) (at to m : ℕ) → part h' to m ≡ part h at m → (k : ℕ) → k + w ≤ m → number_at w h' (to + k) ≡ number_at w h (at + k)
number_moved w h h' at to m e k l = rw (part-inside h h' at to m e k w l)

-- Locations or entries with their checksums.
pub sums_moved : (w o : ℕ) (h h' : List ℕ) → 16 ≤ w → o + 4 ≤ w → (n at to : ℕ) → part h' to (n * w) ≡ part h at (n * w)
    → sums_stand w o h' to n ≡ sums_stand w o h at n
unfolding sums_stand sum_stands
sums_moved w o h h' a b zero at to e = refl
sums_moved w o h h' a b (suc n) at to e =
    let m = suc-mul n w in
    let first = part-front h h' at to (suc n * w) e 16 (omega (arith, m)) in
    rw (first, part-inside h h' at to (suc n * w) e o 4 (omega (arith, m)), sums_moved w o h h' a b n (at + w) (to + w) (part-inside h h' at to (suc n * w) e w (n * w) (omega (arith, m))))

-- One more behind them.
pub sums_more : (w o : ℕ) (h : List ℕ) (n at : ℕ) → sums_stand w o h at (suc n) ≡ sums_stand w o h at n && sum_stands h (at + n * w) 16 (at + n * w + o)
unfolding sums_stand
sums_more w o h zero at = let e : at + 0 * w ≡ at = rw zero-mul (omega arith) in rw (e, and-true)
sums_more w o h (suc n) at =
    let e : at + w + n * w ≡ at + suc n * w = omega (arith, suc-mul n w) in
    rw (sums_more w o h n (at + w), e) (sym (and_assoc (sum_stands h at 16 (at + o)) _ _))

-- Entries.
pub entries_moved : (f : Form) (h h' : List ℕ) (n at to : ℕ) → part h' to (entries_width f n) ≡ part h at (entries_width f n) → entries_at f h' to n ≡ entries_at f h at n
unfolding entries_at
entries_moved f h h' zero at to e = refl
entries_moved f h h' (suc n) at to e =
    let m = entries_next f n in
    let w = entry-least f in
    let logical = part-front h h' at to (entries_width f (suc n)) e 8 (omega arith) in
    let physical = address_same f h' h (to + 8) (at + 8) (part-inside h h' at to (entries_width f (suc n)) e 8 8 (omega arith)) in
    let sum = part-front h h' at to (entries_width f (suc n)) e (entry_sum_at f) (omega arith) in
    rw (logical, physical, page-sum-same f h' h to at sum, entries_moved f h h' n (at + entry_width f) (to + entry_width f) (part-inside h h' at to (entries_width f (suc n)) e (entry_width f) (entries_width f n) (omega arith)))

-- The whole history's count.
pub count_same : {low high : ℕ} {h h' : List ℕ} → Same low high h h' → (at : ℕ) → low ≤ at → at + whole_size 0 ≤ high → count_at h' at ≡ count_at h at
count_same w at l m = rw (part_same w (at + 8) 8 (omega arith) (omega arith))

-- A location.
pub location-same : (h h' : List ℕ) (s s' : Setting) (k : ℕ) → s'.form ≡ s.form → part h' (location_at s' k) 16 ≡ part h (location_at s k) 16
    → (address_at s'.form h' (location_at s' k) ≡ address_at s.form h (location_at s k)) × (located_size h' (location_at s' k) ≡ located_size h (location_at s k))
location-same h h' s s' k form e =
    let at : ℕ = location_at s k in
    let to : ℕ = location_at s' k in
    (rw form (address_same s.form h' h to at (part-front h h' at to 16 e 8 (omega arith))), number_moved 8 h h' at to 16 e 8 (omega arith))

-- A record: its fields, and what row 7 asks of them, stand ahead of its entries.
module _ (h h' : List ℕ) where
  pub record_same : (f : Form) (at size : ℕ) → part h' at (front_width f) ≡ part h at (front_width f) → record_at f h' at size ≡ record_at f h at size
  unfolding record_at
  record_same f at size e =
      let c = count-least f in
      let field : (w k : ℕ) → k + w ≤ front_width f → number_at w h' (at + k) ≡ number_at w h (at + k) = λ w k l. number_moved w h h' at at (front_width f) e k l in
      rw (field 8 8 (omega arith), field 8 16 (omega arith), field 8 40 (omega arith), field 4 48 (omega arith), field 8 (entry_count_at f) (omega arith), field 4 (name_size_at f) (omega arith), field 4 (comment_size_at f) (omega arith))

  pub fields-same : (s s' : Setting) (k : ℕ) (r : Record) → s'.form ≡ s.form → s'.original ≡ s.original
      → part h' r.address (front_width s.form) ≡ part h r.address (front_width s.form) → record_fields h' s' k r ≡ record_fields h s k r
  unfolding record_fields
  fields-same s s' k r form original e =
      let at : ℕ = r.address in
      let c = count-least s.form in
      let inside : (k n : ℕ) → k + n ≤ front_width s.form → part h' (at + k) n ≡ part h (at + k) n = λ k n l. part-inside h h' at at (front_width s.form) e k n l in
      rw (form, original, part-front h h' at at (front_width s.form) e 4 (omega arith), inside 4 4 (omega arith), inside 24 16 (omega arith))
