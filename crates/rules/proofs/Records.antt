-- Rows 7 and 8 of a record, part by part, and that they pass it as long as its bytes stand and the whole history lies behind it.
use mathlib.Core.Path.{◌≡◌, refl, ap, ◌∙◌}
use mathlib.Core.Bool.{true, false, ◌&&◌}
use mathlib.Core.List.{List, [], ◌∷◌}
use Prim.Native.Nat.{ℕ, suc, ◌+◌, ◌*◌, ◌-◌, ◌≤◌, ◌<◌}
use native.Mathlib.Omega.{arith}
use lib.ListN.{length, get_or}
use borrow.Author.Tests.{le-leb, lt-ltb, eq-eqb, leb-true, eqb-true, not-false}
use lib.Dec.{leb, ltb, eqb}
use Rattle.rules.specs.Bytes.{part, same}
use Rattle.rules.specs.Layout.{
  limit,
  entry_limit,
  name_limit,
  comment_limit,
  record_signature,
  end_of,
  entry_sum_at,
  entry_width,
  entries_width,
  front_width,
  sum_stands,
  version_bytes,
  header_width,
  whole_size,
  location_at,
  header_end,
  empty_end,
  record_size,
  record_at,
  time_of,
  index_of,
  name_at,
  name_of,
  comment_at,
  comment_of,
  record_of,
  within,
  time_right,
  text_right,
}
use Rattle.rules.specs.Orders.{Rising}
use Rattle.rules.specs.View.{no_entry, logicals}
use Rattle.rules.specs.Rows.{entry_right, entries_right, record_lies, record_fields, record_wrong, record_sum_wrong}
use Rattle.rules.specs.Calls.{row, ◌then◌, record_rows, revision_index}
use Rattle.rules.specs.declared.Form.{Form}
use Rattle.rules.specs.declared.Setting.{Setting}
use Rattle.rules.specs.declared.Record.{Record}
use Rattle.rules.specs.declared.Entry.{Entry}
use Rattle.rules.proofs.Rows.{both, row-clear, then-clear}
use Rattle.rules.proofs.Places.{end-behind, entry-least, entries_product}
use Rattle.rules.proofs.Entries.{EntryRight}
use Rattle.rules.proofs.Rising.{RisingFrom, from_front}
use Rattle.rules.proofs.Same.{Same, part_same, part-front, sums_moved, entries_moved, location-same, record_same, fields-same}

-- ---- Row 7

-- Where the record lies, and its sizes.
pub record LiesFacts (s : Setting) (r : Record) : Type 0 where
  pub behind : empty_end s.form ≤ r.address
  pub ends : end_of s.form r.address r.size ≤ s.address
  pub sized : r.size ≡ record_size s.form r.entries r.name r.comment
  pub few : r.entries ≤ entry_limit
  pub named : r.name ≤ name_limit
  pub commented : r.comment ≤ comment_limit

module _ (s : Setting) (r : Record) where
  pub lies_facts : record_lies s r ≡ true → LiesFacts s r
  unfolding record_lies
  lies_facts t =
      let a5 = both _ _ t in
      let a4 = both _ _ a5.0 in
      let a3 = both _ _ a4.0 in
      let a2 = both _ _ a3.0 in
      let a1 = both _ _ a2.0 in
      record {
        behind = leb-true _ _ a1.0;
        ends = leb-true _ _ a1.1;
        sized = eqb-true _ _ a2.1;
        few = leb-true _ _ a3.1;
        named = leb-true _ _ a4.1;
        commented = leb-true _ _ a5.1;
      }

  pub facts_lie : LiesFacts s r → record_lies s r ≡ true
  unfolding record_lies
  facts_lie w = rw (le-leb _ _ w.behind, le-leb _ _ w.ends, eq-eqb _ _ w.sized, le-leb _ _ w.few, le-leb _ _ w.named, le-leb _ _ w.commented)

-- All that row 7 asks.
pub record RecordRight (h : List ℕ) (s : Setting) (k : ℕ) (r : Record) : Type 0 where
  pub lies : LiesFacts s r
  pub fields : record_fields h s k r ≡ true
  pub entries : entries_right s r 0 (index_of h s.form r) ≡ true
  pub named : text_right (name_of h s.form r) ≡ true
  pub commented : text_right (comment_of h s.form r) ≡ true

module _ (h : List ℕ) (s : Setting) (k : ℕ) (r : Record) where
  pub record-right : record_wrong h s k r ≡ false → RecordRight h s k r
  unfolding record_wrong
  record-right e =
      let a = both (record_lies s r && record_fields h s k r && entries_right s r 0 (index_of h s.form r) && text_right (name_of h s.form r)) (text_right (comment_of h s.form r)) (not-false _ e) in
      let b = both (record_lies s r && record_fields h s k r && entries_right s r 0 (index_of h s.form r)) (text_right (name_of h s.form r)) a.0 in
      let c = both (record_lies s r && record_fields h s k r) (entries_right s r 0 (index_of h s.form r)) b.0 in
      let d = both (record_lies s r) (record_fields h s k r) c.0 in
      record { lies = lies_facts s r d.0; fields = d.1; entries = c.1; named = b.1; commented = a.1 }

  pub right_record : RecordRight h s k r → record_wrong h s k r ≡ false
  unfolding record_wrong
  right_record w = rw (facts_lie s r w.lies, w.fields, w.entries, w.named, w.commented)

-- The logical size "is at least the original's length and at most its limit".
pub fields_logical : (h : List ℕ) (s : Setting) (k : ℕ) (r : Record) → record_fields h s k r ≡ true → (s.original ≤ r.logical) × (r.logical ≤ limit)
unfolding record_fields
fields_logical h s k r t =
    let started = same (part h r.address 4) record_signature && same (part h (r.address + 4) 4) (version_bytes s.form) in
    let front = started && eqb r.revision k && ltb r.parent k && time_right (time_of h r) in
    let a = both (front && within s.original limit r.logical) (eqb r.page s.form.page) t in
    let b = both (leb s.original r.logical) (leb r.logical limit) (both front (within s.original limit r.logical) a.0).1 in
    (leb-true _ _ b.0, leb-true _ _ b.1)

-- Entries that rise and of which each is right are what row 7 asks of them.
right_from : (s : Setting) (r : Record) (next : ℕ) (index : List Entry) → RisingFrom next (logicals index) → ((k : ℕ) → k < length index → EntryRight s r (get_or index k no_entry))
    → entries_right s r next index ≡ true
unfolding entries_right entry_right
right_from s r next [] rises right = refl
right_from s r next (e ∷ index) rises right =
    let w = right 0 (omega arith) in
    rw (le-leb _ _ rises.0, eq-eqb _ _ w.multiple, lt-ltb _ _ w.below, le-leb _ _ w.behind_empty, le-leb _ _ w.ahead)
    (right_from s r (e.logical + 1) index rises.1 (λ k l. right (suc k) (omega arith)))

pub right_entries : (s : Setting) (r : Record) (index : List Entry) → Rising (logicals index) → ((k : ℕ) → k < length index → EntryRight s r (get_or index k no_entry))
    → entries_right s r 0 index ≡ true
right_entries s r index rises right = right_from s r 0 index (from_front 0 (logicals index) rises (λ k l. omega arith)) right

-- ---- Both rows

pub rows_pass : (h : List ℕ) (s : Setting) (k : ℕ) → record_rows h s (suc k) ≡ 0
    → RecordRight h s (suc k) (record_of h s (suc k)) × (record_sum_wrong h s.form (record_of h s (suc k)) ≡ false)
unfolding record_rows
rows_pass h s k e =
    let c = then-clear _ _ e in
    (record-right h s (suc k) (record_of h s (suc k)) (row-clear 7 _ (omega arith) c.0), row-clear 8 _ (omega arith) c.1)

pub pass_rows : (h : List ℕ) (s : Setting) (k : ℕ) → RecordRight h s (suc k) (record_of h s (suc k)) → record_sum_wrong h s.form (record_of h s (suc k)) ≡ false
    → record_rows h s (suc k) ≡ 0
unfolding record_rows row ◌then◌
pass_rows h s k w e = rw (right_record h s (suc k) (record_of h s (suc k)) w, e)

-- ---- A record as long as its bytes stand

-- What row 7 asks of entries goes by the form alone.
entries_form : (s s' : Setting) (r : Record) → s'.form ≡ s.form → (next : ℕ) (index : List Entry) → entries_right s' r next index ≡ entries_right s r next index
unfolding entries_right entry_right
entries_form s s' r e next [] = refl
entries_form s s' r e next (x ∷ index) = rw (entries_form s s' r e (x.logical + 1) index, e)

-- The least address of a record lies behind the header.
pub empty-behind : (f : Form) → header_width ≤ empty_end f
empty-behind f = omega (arith, end-behind f 0 header_width, end-behind f (header_end f) (whole_size 0))

-- The history as it goes on: the same form and original, the bytes ahead of the whole history unchanged, and the locations too, though
-- they may stand elsewhere.
pub record Grown (h : List ℕ) (s : Setting) (h' : List ℕ) (s' : Setting) : Type 0 where
  pub form : s'.form ≡ s.form
  pub original : s'.original ≡ s.original
  pub ahead : s.address ≤ s'.address
  pub same : Same header_width s.address h h'
  pub located : (k : ℕ) → 0 < k → k ≤ s.count → part h' (location_at s' k) 16 ≡ part h (location_at s k) 16

module _ {h h' : List ℕ} {s s' : Setting} (w : Grown h s h' s') (k : ℕ) (known : suc k ≤ s.count) (pass : record_rows h s (suc k) ≡ 0) where
  abbrev r : Record
  r = record_of h s (suc k)

  right : RecordRight h s (suc k) r
  right = (rows_pass h s k pass).0

  inside : (header_width ≤ r.address) × (r.address + r.size ≤ s.address) × (r.size ≡ record_size s.form r.entries r.name r.comment)
  inside = let l = right.lies in (omega (arith, empty-behind s.form, l.behind), omega (arith, l.ends, end-behind s.form r.address r.size), l.sized)

  -- All of the record.
  kept : part h' r.address r.size ≡ part h r.address r.size
  kept = part_same w.same r.address r.size inside.0 inside.1

  kept-part : (at n : ℕ) → r.address ≤ at → at + n ≤ r.address + r.size → part h' at n ≡ part h at n
  kept-part at n l m = part_same w.same at n (omega (arith, inside.0)) (omega (arith, inside.1))

  front_long : front_width s.form + 4 ≤ r.size
  front_long = omega (arith, inside.2)

  -- Its front.
  kept-front : part h' r.address (front_width s.form) ≡ part h r.address (front_width s.form)
  kept-front = part-front h h' r.address r.address r.size kept (front_width s.form) (omega (arith, front_long))

  pub record-grown : record_of h' s' (suc k) ≡ r
  unfolding record_of record_at
  record-grown =
      let at = location-same h h' s s' (suc k) w.form (w.located (suc k) (omega arith) known) in
      rw (at.0, at.1, w.form) (record_same h h' s.form r.address r.size kept-front)

  pub index-grown : revision_index h' s' (suc k) ≡ revision_index h s (suc k)
  index-grown =
      rw (record-grown, w.form)
      (entries_moved s.form h h' r.entries (r.address + front_width s.form) (r.address + front_width s.form)
      (kept-part (r.address + front_width s.form) (entries_width s.form r.entries) (omega arith) (omega (arith, inside.2))))

  right-grown : RecordRight h' s' (suc k) r
  right-grown =
      let l = right.lies in
      let size = inside.2 in
      record {
        lies = rw w.form (record {
          behind = l.behind;
          ends = omega (arith, l.ends, w.ahead);
          sized = l.sized;
          few = l.few;
          named = l.named;
          commented = l.commented;
        });
        fields = fields-same h h' s s' (suc k) r w.form w.original kept-front ∙ right.fields;
        entries = entries_form s s' r w.form 0 _ ∙ rw w.form (rw (record-grown, w.form) at (ap (entries_right s r 0) index-grown) ∙ right.entries);
        named = rw (w.form, kept-part (name_at s.form r) r.name (omega arith) (omega arith)) right.named;
        commented = rw (w.form, kept-part (comment_at s.form r) r.comment (omega arith) (omega arith)) right.commented;
      }

  sums_grown : record_sum_wrong h' s'.form r ≡ false
  unfolding record_sum_wrong sum_stands
  sums_grown =
      let f = front_long in
      let e = entry-least s.form in
      let n = entries_product s.form r.entries in
      let size = inside.2 in
      rw (
        w.form,
        kept-part r.address (r.size - 4) (omega arith) (omega arith),
        kept-part (r.address + (r.size - 4)) 4 (omega arith) (omega arith),
        sums_moved (entry_width s.form) (entry_sum_at s.form) h h' (omega arith) (omega arith) r.entries (r.address + front_width s.form) (r.address + front_width s.form)
            (kept-part (r.address + front_width s.form) (r.entries * entry_width s.form) (omega arith) (omega arith)),
      )
      (rows_pass h s k pass).1

  pub rows_grown : record_rows h' s' (suc k) ≡ 0
  rows_grown = pass_rows h' s' k (rw record-grown right-grown) (rw record-grown sums_grown)
