-- A revision as it stands in a history, and that it stands as long as the bytes ahead of the whole history do.
use mathlib.Core.Path.{◌≡◌, refl, ◌∙◌}
use mathlib.Core.Bool.{true, false}
use mathlib.Core.Logic.{⊎_elim}
use mathlib.Core.List.{List, []}
use Prim.Native.Nat.{ℕ, zero, suc, ◌+◌, ◌%◌, ◌≤◌, ◌<◌}
use native.Mathlib.Nat.{mod-lt}
use native.Mathlib.Omega.{arith}
use lib.ListN.{length, get_or}
use borrow.Author.Tests.{ltb-true}
use Rattle.rules.specs.Bytes.{byte_at}
use Rattle.rules.specs.Layout.{limit, entry_limit, header_width, entries_at, record_of}
use Rattle.rules.specs.Orders.{Rising}
use Rattle.rules.specs.View.{place_of, no_entry, logicals, has_page, page_of, revision_byte}
use Rattle.rules.specs.Rows.{page_sum_wrong}
use Rattle.rules.specs.Calls.{record_rows, revision_index}
use Rattle.rules.specs.History.{Revision, entry_afresh}
use Rattle.rules.specs.declared.Setting.{Setting}
use Rattle.rules.specs.declared.Record.{Record}
use Rattle.rules.specs.declared.Entry.{Entry}
use Rattle.rules.proofs.Places.{end-behind}
use Rattle.rules.proofs.Entries.{EntryRight, entry-right, entries_rise, length_entries, length-logicals, either}
use Rattle.rules.proofs.Same.{Same, part_same}
use Rattle.rules.proofs.Records.{RecordRight, fields_logical, rows_pass, Grown, empty-behind, record-grown, index-grown, rows_grown}

-- ---- The index of a revision whose rows have passed

pub record IndexRight (h : List ℕ) (s : Setting) (k : ℕ) : Type 0 where
  pub few : length (revision_index h s k) ≤ entry_limit
  pub rises : Rising (logicals (revision_index h s k))
  pub right : (j : ℕ) → j < length (revision_index h s k) → EntryRight s (record_of h s k) (get_or (revision_index h s k) j no_entry)
  pub ahead : (j : ℕ) → j < length (revision_index h s k) → (get_or (revision_index h s k) j no_entry).physical + s.form.page ≤ s.address

pub index-right : (h : List ℕ) (s : Setting) (k : ℕ) → record_rows h s k ≡ 0 → IndexRight h s k
unfolding record_of entries_at
index-right h s zero e =
    record { few = omega arith; rises = λ i k l m. absurd (omega arith); right = λ j l. absurd (omega arith); ahead = λ j l. absurd (omega arith) }
index-right h s (suc k) e =
    let r : Record = record_of h s (suc k) in
    let w : RecordRight h s (suc k) r = (rows_pass h s k e).0 in
    let right = entry-right s r 0 (revision_index h s (suc k)) w.entries in
    record {
      few = rw (length_entries s.form h _ r.entries) w.lies.few;
      rises = entries_rise s r 0 (revision_index h s (suc k)) w.entries;
      right = right;
      ahead = λ j l. omega (arith, (right j l).ahead, w.lies.ends, end-behind s.form r.address r.size);
    }

-- Its logical size.
pub logical-right : (h : List ℕ) (s : Setting) (k : ℕ) → record_rows h s k ≡ 0 → s.original ≤ limit → (s.original ≤ (record_of h s k).logical) × ((record_of h s k).logical ≤ limit)
unfolding record_of
logical-right h s zero e l = (omega arith, l)
logical-right h s (suc k) e l = fields_logical h s (suc k) (record_of h s (suc k)) (rows_pass h s k e).0.fields

-- ---- A revision

pub record Stored (original h : List ℕ) (s : Setting) (k : ℕ) (v : Revision) : Type 0 where
  pub rows : record_rows h s k ≡ 0
  pub size : (record_of h s k).logical ≡ length v.bytes
  pub pages : (a : ℕ) → entry_afresh s.form.page (revision_index h s k) [] a ≡ entry_afresh s.form.page v.given v.line a
  pub sums : (j : ℕ) → j < length (revision_index h s k) → page_sum_wrong h s.form.page (get_or (revision_index h s k) j no_entry) ≡ false
  pub shown : (i : ℕ) → i < length v.bytes → revision_byte original h s.form.page (revision_index h s k) i ≡ byte_at v.bytes i

-- ---- Its pages lie ahead of the whole history

pub record Lie (low high p : ℕ) (index : List Entry) : Type 0 where
  pub behind : (j : ℕ) → j < length index → low ≤ (get_or index j no_entry).physical
  pub ahead : (j : ℕ) → j < length index → (get_or index j no_entry).physical + p ≤ high

module _ {h h' : List ℕ} {low high p : ℕ} (w : Same low high h h') (index : List Entry) (lie : Lie low high p index) where
  pub sum_same : (j : ℕ) → j < length index → page_sum_wrong h' p (get_or index j no_entry) ≡ page_sum_wrong h p (get_or index j no_entry)
  unfolding page_sum_wrong
  sum_same j l = rw (part_same w (get_or index j no_entry).physical p (lie.behind j l) (lie.ahead j l))

  pub byte-same : 0 < p → (original : List ℕ) (i : ℕ) → revision_byte original h' p index i ≡ revision_byte original h p index i
  unfolding revision_byte
  byte-same some original i = ⊎_elim
      (λ (t : has_page index (page_of p i) ≡ true).
      let j : ℕ = place_of (page_of p i) (logicals index) in
      let k : j < length index = rw (length-logicals index) at (ltb-true j (length (logicals index)) t) in
      rw t (w.bytes ((get_or index j no_entry).physical + i % p) (omega (arith, lie.behind j k)) (omega (arith, lie.ahead j k, mod-lt i some))))
      (λ (t : has_page index (page_of p i) ≡ false). rw t)
      (either (has_page index (page_of p i)))

pub pages_lie : (h : List ℕ) (s : Setting) (k : ℕ) → record_rows h s k ≡ 0 → Lie header_width s.address s.form.page (revision_index h s k)
pages_lie h s k e =
    let x = index-right h s k e in
    record { behind = λ j m. omega (arith, (x.right j m).behind_empty, empty-behind s.form); ahead = x.ahead }

-- ---- It stands as the history goes on

module _ {h h' : List ℕ} {s s' : Setting} (w : Grown h s h' s') where
  pub record Stay (k : ℕ) : Type 0 where
    pub rows : record_rows h' s' k ≡ 0
    pub fields : record_of h' s' k ≡ record_of h s k
    pub index : revision_index h' s' k ≡ revision_index h s k

  pub stay : (k : ℕ) → k ≤ s.count → record_rows h s k ≡ 0 → Stay k
  unfolding record_rows record_of entries_at
  stay zero l e = record { rows = refl; fields = rw (w.form, w.original); index = refl }
  stay (suc k) l e = record { rows = rows_grown w k l e; fields = record-grown w k l e; index = index-grown w k l e }

  pub stored-grown : (original : List ℕ) (k : ℕ) (v : Revision) → 0 < s.form.page → k ≤ s.count → Stored original h s k v → Stored original h' s' k v
  stored-grown original k v some l z =
      let t = stay k l z.rows in
      let x = index-right h s k z.rows in
      let lie = pages_lie h s k z.rows in
      record {
        rows = t.rows;
        size = rw t.fields z.size;
        pages = rw (t.index, w.form) z.pages;
        sums = rw (t.index, w.form) (λ j m. sum_same w.same (revision_index h s k) lie j m ∙ z.sums j m);
        shown = rw (t.index, w.form) (λ i m. byte-same w.same (revision_index h s k) lie some original i ∙ z.shown i m);
      }
