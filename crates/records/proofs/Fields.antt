-- Rows 7 and 8, as the code goes through them.
use mathlib.Core.Path.{◌≡◌, refl, sym, ◌∙◌}
use mathlib.Core.Bool.{Bool, true, false, not, ◌&&◌, and-true}
use mathlib.Core.List.{List}
use Prim.Native.Nat.{ℕ, zero, suc, ◌+◌, ◌-◌, ◌≤◌, ◌<◌}
use native.Mathlib.Nat.{add_assoc}
use native.Mathlib.Omega.{arith}
use lib.Dec.{leb, ltb, eqb}
use lib.ListN.{take, drop}
use borrow.Author.Tests.{le-leb, ne_eqb, eqb-true, not-false}
use Rattle.rules.specs.Bytes.{part, number_at, same}
use Rattle.rules.specs.Layout.{
  limit,
  entry_limit,
  name_limit,
  comment_limit,
  record_signature,
  end_of,
  address_at,
  entry_sum_at,
  entry_width,
  entries_width,
  entry_count_at,
  front_width,
  bare_width,
  version_bytes,
  sum_stands,
  sums_stand,
  location_at,
  empty_end,
  entries_at,
  entries_in,
  record_size,
  record_at,
  index_of,
  name_at,
  name_of,
  comment_of,
  no_record,
  record_of,
  time_right,
  text_right,
  located_size,
  time_at,
}
use Rattle.rules.specs.Rows.{entries_right, record_lies, record_fields, record_wrong, record_sum_wrong}
use Rattle.rules.specs.Calls.{row, ◌then◌, record_rows}
use Rattle.rules.specs.declared.Form.{Form}
use Rattle.rules.specs.declared.Setting.{Setting}
use Rattle.rules.specs.declared.Record.{Record}
use Rattle.rules.proofs.Bytes.{slice-part}
use Rattle.rules.proofs.Places.{end-behind, entries_none}
use Rattle.rules.proofs.Rows.{both, row-clear, then-clear, must_hold, row-holds}
use Rattle.rules.proofs.Records.{LiesFacts, lies_facts, record-right, fields_logical}
use Rattle.whole.specs.Sound.{Sound}
use Rattle.records.specs.Sound.{SoundRecord, index_in}

-- ---- The fields

pub record_parts : (f : Form) (h : List ℕ) (at size : ℕ) {sizes revision parent logical page entries name comment : ℕ} → sizes ≡ at + entry_count_at f
    → revision ≡ number_at 8 h (at + 8) → parent ≡ number_at 8 h (at + 16) → logical ≡ number_at 8 h (at + 40) → page ≡ number_at 4 h (at + 48)
    → entries ≡ number_at 8 h sizes → name ≡ number_at 4 h (sizes + 8) → comment ≡ number_at 4 h (sizes + 12)
    → ◌≡◌ {A = Record} (record { address = at; size = size; revision = revision; parent = parent; logical = logical; page = page; entries = entries; name = name; comment = comment })
    (record_at f h at size)
unfolding record_at
record_parts f h at size z a b c d e n o = rw (a, b, c, d, e, n, o, z, add_assoc at (entry_count_at f) 8, add_assoc at (entry_count_at f) 12)

-- ---- Where it lies

-- A test that cannot hold fails.
pub cannot_hold : (b : Bool) → (b ≡ true → ⊥) → false ≡ b
cannot_hold true h = absurd (h refl)
cannot_hold false h = refl

module _ (s : Setting) (r : Record) where
  pub lies-fault : (LiesFacts s r → ⊥) → false ≡ record_lies s r
  lies-fault f = cannot_hold _ (λ e. f (lies_facts s r e))

  -- A record that reaches past the whole history's start does not lie.
  pub lies_far : (r.address + r.size ≤ s.address → ⊥) → false ≡ record_lies s r
  lies_far f = lies-fault (λ w. f (omega (arith, w.ends, end-behind s.form r.address r.size)))

  pub lies_parts : {least end size : ℕ} → r.entries ≤ entry_limit → r.name ≤ name_limit → r.comment ≤ comment_limit
      → least ≡ empty_end s.form → end ≡ end_of s.form r.address r.size
      → size ≡ record_size s.form r.entries r.name r.comment
      → leb least r.address && leb end s.address && eqb r.size size ≡ record_lies s r
  unfolding record_lies
  lies_parts a b c d e g = rw (d, e, g, le-leb _ _ a, le-leb _ _ b, le-leb _ _ c) (simp and-true)

-- ---- The fields ahead of the entries

pub fields_parts : (h : List ℕ) (s : Setting) (k : ℕ) (r : Record) {started timed : Bool}
    → started ≡ same (part h r.address 4) record_signature && same (part h (r.address + 4) 4) (version_bytes s.form)
    → timed ≡ time_right (take (time_at r + 16 - time_at r) (drop (time_at r) h))
    → started && eqb r.revision k && ltb r.parent k && timed && (leb s.original r.logical && leb r.logical limit) && eqb r.page s.form.page
    ≡ record_fields h s k r
unfolding record_fields
fields_parts h s k r a c = rw (a, c, slice-part h (time_at r) 16)

-- ---- Name and comment

pub texts_parts : (f : Form) (h : List ℕ) (r : Record) {named commented : Bool} (name comment end : ℕ) → name ≡ name_at f r
    → comment ≡ name + r.name → end ≡ comment + r.comment
    → named ≡ text_right (take (comment - name) (drop name h)) → commented ≡ text_right (take (end - comment) (drop comment h))
    → named && commented ≡ text_right (name_of h f r) && text_right (comment_of h f r)
texts_parts f h r name comment end a b c d e =
    let p : comment - name ≡ r.name = omega arith in
    let q : end - comment ≡ r.comment = omega arith in
    rw (d, e, p, q, b, a)

-- ---- Row 7

module _ (h : List ℕ) (s : Setting) (k : ℕ) (r : Record) where
  pub wrong_lies : record_lies s r ≡ false → true ≡ record_wrong h s k r
  unfolding record_wrong
  wrong_lies a = rw a

  pub wrong_fields : record_lies s r ≡ true → record_fields h s k r ≡ false → true ≡ record_wrong h s k r
  unfolding record_wrong
  wrong_fields a b = rw (a, b)

  pub wrong_entries : record_lies s r ≡ true → record_fields h s k r ≡ true → entries_right s r 0 (index_of h s.form r) ≡ false → true ≡ record_wrong h s k r
  unfolding record_wrong
  wrong_entries a b c = rw (a, b, c)

  pub wrong_texts : {t : Bool} → record_lies s r ≡ true → record_fields h s k r ≡ true → entries_right s r 0 (index_of h s.form r) ≡ true
      → t ≡ text_right (name_of h s.form r) && text_right (comment_of h s.form r) → not t ≡ record_wrong h s k r
  unfolding record_wrong
  wrong_texts a b c d = rw (a, b, c, d)

-- ---- Row 8

pub sum_wrong_parts : (h : List ℕ) (f : Form) (r : Record) (n : ℕ) {at width offset : ℕ} {whole each : Bool} → n + 4 ≡ r.size
    → at ≡ r.address + front_width f → width ≡ entry_width f → offset ≡ entry_sum_at f
    → whole ≡ sum_stands h r.address n (r.address + n) → each ≡ sums_stand width offset h at r.entries → not (whole && each) ≡ record_sum_wrong h f r
unfolding record_sum_wrong
sum_wrong_parts h f r n e u v w a b = let q : r.size - 4 ≡ n = omega arith in rw (q, a, b, u, v, w)

-- The entries' checksums of a record that row 8 passes.
pub summed_facts : (h : List ℕ) (f : Form) (r : Record) → record_sum_wrong h f r ≡ false
    → sums_stand (entry_width f) (entry_sum_at f) h (r.address + front_width f) r.entries ≡ true
unfolding record_sum_wrong
summed_facts h f r e =
    (both (sum_stands h r.address (r.size - 4) (r.address + (r.size - 4))) (sums_stand (entry_width f) (entry_sum_at f) h (r.address + front_width f) r.entries) (not-false _ e)).1

-- ---- Both rows of a revision

module _ (h : List ℕ) (s : Setting) where
  record_is : (k : ℕ) {at size : ℕ} → 0 < k → at ≡ address_at s.form h (location_at s k) → size ≡ located_size h (location_at s k)
      → record_at s.form h at size ≡ record_of h s k
  unfolding record_of
  record_is zero h e f = absurd (omega arith)
  record_is (suc k) h e f = rw (e, f)

  rows_are : (k : ℕ) → 0 < k → record_rows h s k ≡ row 7 (record_wrong h s k (record_of h s k)) then row 8 (record_sum_wrong h s.form (record_of h s k))
  unfolding record_rows
  rows_are zero h = absurd (omega arith)
  rows_are (suc k) h = refl

  pub rows_none : (k : ℕ) → k ≡ 0 → 0 ≡ record_rows h s k
  unfolding record_rows
  rows_none k e = rw e

  pub none_is : (k : ℕ) {r : Record} → k ≡ 0 → r ≡ no_record s → r ≡ record_of h s k
  unfolding record_of
  none_is k e f = rw (f, e)

-- ---- Sound records

pub none-sound : (h : List ℕ) (s : Setting) {r : Record} → Sound h s → r ≡ no_record s → SoundRecord h s r
unfolding index_in entries_right entries_at sums_stand
none-sound h s w e =
    rw e
    (record {
      few = omega arith;
      grown = omega arith;
      small = w.original;
      below = omega arith;
      inside = omega (arith, entries_none s.form);
      right = refl;
      summed = refl;
    })

-- A record whose rows have passed.
module _ (h : List ℕ) (s : Setting) (k : ℕ) (r : Record) (wrong : record_wrong h s k r ≡ false) (sums : record_sum_wrong h s.form r ≡ false) where
  facts : LiesFacts s r
  facts = (record-right h s k r wrong).lies

  ahead : r.address + r.size ≤ s.address
  ahead = omega (arith, facts.ends, end-behind s.form r.address r.size)

  pub right-sound : SoundRecord h s r
  unfolding index_in sums_stand
  right-sound =
      let w = record-right h s k r wrong in
      let g = fields_logical h s k r w.fields in
      record {
        few = facts.few;
        grown = g.0;
        small = g.1;
        below = omega (arith, ahead);
        inside = place (eqb r.entries 0) refl;
        right = w.entries;
        summed = stand (eqb r.entries 0) refl;
      }
    where
      place : (b : Bool) → eqb r.entries 0 ≡ b → (index_in s r).at + entries_width s.form r.entries ≤ s.address
      place true q = let z = eqb-true r.entries 0 q in rw (q, z) (omega (arith, entries_none s.form))
      place false q = rw q (omega (arith, ahead, facts.sized))

      stand : (b : Bool) → eqb r.entries 0 ≡ b → sums_stand (entry_width s.form) (entry_sum_at s.form) h (index_in s r).at r.entries ≡ true
      stand true q = let z = eqb-true r.entries 0 q in rw z
      stand false q = rw q (summed_facts h s.form r sums)

-- ---- Where the index stands

pub index-none : (s : Setting) (r : Record) → r.entries ≡ 0 → record { form = s.form; at = 0; entries = 0 } ≡ index_in s r
unfolding index_in
index-none s r e = rw e

pub index_some : (s : Setting) (r : Record) {at : ℕ} → at ≡ r.address + front_width s.form → (r.entries ≡ 0 → ⊥)
    → record { form = s.form; at = at; entries = r.entries } ≡ index_in s r
unfolding index_in
index_some s r a e = rw (a, ne_eqb r.entries 0 e)

-- There stand the record's entries.
pub index-there : (h : List ℕ) (s : Setting) (r : Record) → entries_in h (index_in s r) ≡ index_of h s.form r
unfolding index_in entries_at
index-there h s r = go r.entries refl
  where
    go : (n : ℕ) → r.entries ≡ n → entries_in h (index_in s r) ≡ index_of h s.form r
    go zero e = rw e
    go (suc n) e = rw (ne_eqb r.entries 0 (λ q. omega arith))

-- ---- A revision's rows, from where its location says the record stands

module _ (h : List ℕ) (s : Setting) (k : ℕ) {at size : ℕ} (l : 0 < k) (ea : at ≡ address_at s.form h (location_at s k)) (ez : size ≡ located_size h (location_at s k)) where
  -- It does not lie where a record may.
  pub rows_apart : (bare_width s.form ≤ size → at + size ≤ s.address → ⊥) → 7 ≡ record_rows h s k
  unfolding record_at
  rows_apart f =
      let r = record_at s.form h at size in
      let far : LiesFacts s r → ⊥ = λ w. f (omega (arith, w.sized)) (omega (arith, w.ends, end-behind s.form at size)) in
      rw (rows_are h s k l, ← record_is h s k l ea ez)
      (row-holds 7 _ (omega arith) (must_hold (record_wrong h s k r) (λ e. far (record-right h s k r e).lies)) refl)

  module _ {r : Record} (er : r ≡ record_at s.form h at size) where
    pub is_record : r ≡ record_of h s k
    is_record = er ∙ record_is h s k l ea ez

    pub rows_of : {n : ℕ} → n ≡ row 7 (record_wrong h s k r) then row 8 (record_sum_wrong h s.form r) → n ≡ record_rows h s k
    rows_of e = rw (rows_are h s k l, ← is_record) e

pub rows-sound : (h : List ℕ) (s : Setting) (k : ℕ) (r : Record) {n : ℕ} → n ≡ row 7 (record_wrong h s k r) then row 8 (record_sum_wrong h s.form r) → n ≡ 0
    → SoundRecord h s r
rows-sound h s k r e z =
    let c = then-clear _ _ (sym e ∙ z) in
    right-sound h s k r (row-clear 7 _ (omega arith) c.0) (row-clear 8 _ (omega arith) c.1)

pub record_address : (f : Form) (h : List ℕ) (at size : ℕ) {r : Record} → r ≡ record_at f h at size → r.address ≡ at
unfolding record_at
record_address f h at size e = rw e
