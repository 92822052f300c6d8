-- A created history is given with its original alone, and so demand 3 holds from creation on.
use mathlib.Core.Path.{◌≡◌, refl, ◌∙◌}
use mathlib.Core.Bool.{true}
use mathlib.Core.List.{List, []}
use Prim.Native.Nat.{ℕ, zero, suc, ◌+◌, ◌≤◌, ◌<◌}
use native.Mathlib.Omega.{arith}
use lib.Dec.{leb}
use lib.ListN.{length, get_or}
use borrow.Author.Tests.{leb-true, not-false}
use Rattle.rules.specs.Bytes.{part, laid}
use Rattle.rules.specs.Layout.{page_allowed, limit, sums_stand, header_width, header_bytes, setting_of, whole_size, whole_bytes, header_end, empty_end, entries_at, record_of, count_at}
use Rattle.rules.specs.View.{page_of, revision_byte}
use Rattle.rules.specs.Session.{created_form, created_setting, created}
use Rattle.rules.specs.Rows.{creation_wrong}
use Rattle.rules.specs.Calls.{header_rows, record_rows, create_rows, create}
use Rattle.rules.specs.History.{nothing, Stands, Given, Creation, original_alone, Demand3}
use Rattle.rules.specs.declared.Setting.{Setting}
use Rattle.rules.proofs.Bytes.{length-laid, part-laid}
use Rattle.rules.proofs.Rows.{both, row-clear, then-clear}
use Rattle.rules.proofs.Places.{end-behind}
use Rattle.rules.proofs.Entries.{has-nowhere}
use Rattle.rules.proofs.Same.{Same, part_same}
use Rattle.rules.proofs.Headers.{length-right}
use Rattle.rules.proofs.RoundTrips.{header_back, length-whole_bytes, WholeBack, whole_back}
use Rattle.rules.proofs.Stored.{Stored}
use Rattle.rules.proofs.Holds.{Holds, read-stands, check-holds}
use Rattle.rules.proofs.Locks.{header-stands, header-behind}
use Rattle.rules.proofs.Kept.{from-given}

module _ (c : Creation) (passes : create_rows (length c.buffer) (length c.original) c.page ≡ 0) where
  abbrev s : Setting
  s = created_setting (length c.original) c.page c.branching

  abbrev whole_is : List ℕ
  whole_is = whole_bytes s.form 0 []

  abbrev with_whole : List ℕ
  with_whole = laid c.buffer s.address whole_is

  abbrev h : List ℕ
  h = laid with_whole 0 (header_bytes s)

  -- What the rows leave.
  record Creatable : Type 0 where
    room : empty_end (created_form c.page) ≤ length c.buffer
    short : length c.buffer ≤ limit
    allowed : page_allowed c.page ≡ true
    small : length c.original ≤ limit

  creatable : Creatable
  unfolding create_rows creation_wrong
  creatable =
      let a = then-clear _ _ passes in
      let l = length-right (empty_end (created_form c.page)) (length c.buffer) (row-clear 1 _ (omega arith) a.0) in
      let b = both (page_allowed c.page) (leb (length c.original) limit) (not-false _ (row-clear 17 _ (omega arith) a.1)) in
      record { room = l.0; short = l.1; allowed = b.0; small = leb-true _ _ b.1 }

  -- Where header and whole history end.
  ends : (header_width ≤ s.address) × (s.address + whole_size 0 ≤ length c.buffer)
  ends =
      let f = created_form c.page in
      (omega (arith, end-behind f 0 header_width), omega (arith, creatable.room, end-behind f (header_end f) (whole_size 0)))

  whole_long : length whole_is ≡ whole_size 0
  whole_long = length-whole_bytes s.form 0 [] refl

  whole_fits : s.address + length whole_is ≤ length c.buffer
  whole_fits = rw whole_long ends.1

  long : length with_whole ≡ length c.buffer
  long = length-laid c.buffer s.address whole_is whole_fits

  wide : header_width ≤ length with_whole
  wide = rw long (omega (arith, ends))

  same : Same header_width (length with_whole) with_whole h
  same = header-behind with_whole s wide

  whole-there : part h s.address s.size ≡ whole_is
  whole-there =
      part_same same s.address s.size ends.0 (rw long ends.1)
      ∙ rw whole_long at (part-laid c.buffer s.address whole_is whole_fits)

  whole-reads : WholeBack h s []
  whole-reads = whole_back h s [] whole-there refl refl (omega arith) (omega arith) (rw (same.long, long) creatable.room)

  header-reads : (header_rows h ≡ 0) × (count_at h s.address ≡ s.count → setting_of h ≡ s)
  header-reads =
      header_back h s (header-stands with_whole s wide) (rw same.long wide) (rw (same.long, long) creatable.short)
      (record {
        page = creatable.allowed;
        original = creatable.small;
        address = omega (arith, ends.1, creatable.short);
        size = omega arith;
      })

  setting : setting_of h ≡ s
  setting = header-reads.1 whole-reads.counted

  original-stored : Stored c.original h s 0 (record { bytes = c.original; line = []; given = [] })
  unfolding record_rows record_of entries_at revision_byte
  original-stored = record {
    rows = refl;
    size = refl;
    pages = λ a. refl;
    sums = λ j l. absurd (omega arith);
    shown = λ i l. rw (has-nowhere [] (page_of c.page i) (λ k m e. omega arith));
  }

  holds : Holds c.original c.page h (original_alone c)
  unfolding sums_stand
  holds = record {
    header = header-reads.0;
    whole = rw setting (whole-reads.right refl);
    lent = rw setting;
    page = rw setting;
    counted = rw setting;
    stored = λ k l. rw setting (alone k l);
  }
    where
      alone : (k : ℕ) → k < 1 → Stored c.original h s k (get_or (original_alone c) k nothing)
      alone zero l = original-stored
      alone (suc k) l = absurd (omega arith)

  pub created-given : Given c.original c.page h (original_alone c)
  unfolding record_of entries_at
  created-given = record {
    checked = check-holds holds;
    lent = holds.lent;
    page = holds.page;
    counted = holds.counted;
    stands = alone;
    taken = taken;
  }
    where
      alone : (k : ℕ) → k < 1 → Stands c.original h k (get_or (original_alone c) k nothing).bytes (get_or (original_alone c) k nothing).given
      alone zero l = let z = read-stands holds 0 l in record { size = z.size; reads = z.reads; indexed = refl }
      alone (suc k) l = absurd (omega arith)

      taken : (k : ℕ) → k < 1 → (get_or (original_alone c) k nothing).line ≡ []
      taken zero l = refl
      taken (suc k) l = absurd (omega arith)

-- Stands for itself: demand 3.
pub demand3 : Demand3
unfolding create created
demand3 c calls more e = rw e (from-given c.original c.page (h c e) (original_alone c) calls more (created-given c e))
