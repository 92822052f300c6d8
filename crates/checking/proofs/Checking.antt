-- The whole check, as the code goes through it: what is left of it after some revisions, and after some of a revision's entries.
use mathlib.Core.Path.{◌≡◌, refl, sym, ◌∙◌}
use mathlib.Core.Bool.{Bool, true, false, cond}
use mathlib.Core.List.{List}
use Prim.Native.Nat.{ℕ, zero, suc, ◌+◌, ◌-◌, ◌≤◌, ◌<◌}
use native.Mathlib.Numerals.{add-one}
use native.Mathlib.Omega.{arith}
use lib.ListN.{length, get_or}
use Rattle.rules.specs.Layout.{entry_width, entries_width, setting_of, entry_at, entries_at, entries_in}
use Rattle.rules.specs.View.{no_entry}
use Rattle.rules.specs.Rows.{page_sum_wrong}
use Rattle.rules.specs.Calls.{accepted, history_rows, record_rows, revision_index, fault, check_entries, check_revisions, check}
use Rattle.rules.specs.declared.Form.{Form}
use Rattle.rules.specs.declared.Setting.{Setting}
use Rattle.rules.specs.declared.Record.{Record}
use Rattle.rules.specs.declared.Entry.{Entry}
use Rattle.rules.specs.declared.Index.{Index}
use Rattle.rules.specs.declared.Checked.{Checked}
use Rattle.rules.proofs.Places.{entries_none, entries_next}
use Rattle.rules.proofs.Rows.{left_alone}
use Rattle.rules.proofs.Entries.{entry_entries}
use Rattle.records.specs.Sound.{Standing, index_in}
use Rattle.records.proofs.Fields.{index-there}
use Rattle.records.proofs.Stands.{page-ahead}

-- ---- A revision that stands

module _ {h : List ℕ} {s : Setting} {k : ℕ} {r : Record} {x : Index} (w : Standing h s k r) (i : x ≡ index_in s r) where
  -- Its index lies in the history,
  pub index-inside : x.at + entries_width x.form x.entries ≤ length h
  unfolding index_in
  index-inside = rw i (omega (arith, w.right.inside, w.sound.inside))

  -- and so does the page of each of its entries.
  pub page-inside : (j : ℕ) {e : Entry} → j < x.entries → e ≡ entry_at x.form h (x.at + entries_width x.form j)
      → e.physical + s.form.page ≤ length h
  unfolding index_in
  page-inside j {e} l q =
      let it : get_or (entries_in h x) j no_entry ≡ e = entry_entries x.form h x.at x.entries j l ∙ sym q in
      let there : get_or (entries_in h (index_in s r)) j no_entry ≡ e = rw i at it in
      let below : j < r.entries = rw i at l in
      let ahead : e.physical + s.form.page ≤ r.address = rw there at (page-ahead h s r w.right j below) in
      omega (arith, w.right.below, w.sound.inside)

-- ---- The steps of the rules

entries_step : (f : Form) (h : List ℕ) (p k j at m : ℕ) (after : Checked) → 0 < m
    → check_entries h p k j (entries_at f h at m) after
    ≡ cond (page_sum_wrong h p (entry_at f h at)) (fault 9 k j) (check_entries h p k (j + 1) (entries_at f h (at + entry_width f) (m - 1)) after)
unfolding check_entries entries_at
entries_step f h p k j at zero after l = absurd (omega arith)
entries_step f h p k j at (suc m) after l = let e : suc m - 1 ≡ m = omega arith in rw (e, add-one)

revisions_step : (h : List ℕ) (s : Setting) (k m : ℕ) → 0 < m
    → check_revisions h s k m
    ≡ accepted (record_rows h s k) (check_entries h s.form.page k 0 (revision_index h s k) (check_revisions h s (k + 1) (m - 1)))
    (fault (record_rows h s k) k 0)
unfolding check_revisions
revisions_step h s k zero l = absurd (omega arith)
revisions_step h s k (suc m) l = let e : suc m - 1 ≡ m = omega arith in rw (e, add-one)

-- ---- Revision after revision

-- The revisions below k have no fault.
pub record RevisionsLeft (h : List ℕ) (s : Setting) (found : Checked) (k : ℕ) : Type 0 where
  pub from : 1 ≤ k
  pub within : k ≤ s.count + 1
  pub none : found ≡ fault 0 0 0
  pub left : check_revisions h s 1 s.count ≡ check_revisions h s k (s.count + 1 - k)

pub revisions-start : (h : List ℕ) (s : Setting) → RevisionsLeft h s (fault 0 0 0) 1
revisions-start h s =
    let e : s.count + 1 - 1 ≡ s.count = omega arith in
    record { from = omega arith; within = omega arith; none = refl; left = rw e }

pub revisions-end : {h : List ℕ} {s : Setting} {found : Checked} {k : ℕ} → RevisionsLeft h s found k → s.count + 1 ≤ k → found ≡ check_revisions h s 1 s.count
unfolding check_revisions
revisions-end {h} {s} {found} {k} l m = let e : s.count + 1 - k ≡ 0 = omega arith in l.none ∙ sym (l.left ∙ rw e)

-- Those below k, and the first j entries of revision k, whose index is told, have no fault.
pub record EntriesLeft (h : List ℕ) (s : Setting) (k : ℕ) (x : Index) (found : Checked) (j : ℕ) : Type 0 where
  pub within : j ≤ x.entries
  pub none : found ≡ fault 0 0 0
  pub left : check_revisions h s 1 s.count
      ≡ check_entries h s.form.page k j (entries_at x.form h (x.at + entries_width x.form j) (x.entries - j)) (check_revisions h s (k + 1) (s.count + 1 - (k + 1)))

module _ {h : List ℕ} {s : Setting} {found : Checked} {k number : ℕ} (l : RevisionsLeft h s found k) (more : k < s.count + 1) (q : number ≡ record_rows h s k) where
  step : check_revisions h s 1 s.count
      ≡ accepted number (check_entries h s.form.page k 0 (revision_index h s k) (check_revisions h s (k + 1) (s.count + 1 - (k + 1)))) (fault number k 0)
  step =
      let e : s.count + 1 - k - 1 ≡ s.count + 1 - (k + 1) = omega arith in
      l.left ∙ revisions_step h s k (s.count + 1 - k) (omega arith) ∙ rw (e, q)

  pub revisions-fault : (number ≡ 0 → ⊥) → fault number k 0 ≡ check_revisions h s 1 s.count
  revisions-fault f = left_alone number _ (fault number k 0) f ∙ sym step

  pub entries-start : {r : Record} {x : Index} → number ≡ 0 → Standing h s k r → x ≡ index_in s r → EntriesLeft h s k x found 0
  entries-start {r} {x} z w i =
      let here : x.at + entries_width x.form 0 ≡ x.at = omega (arith, entries_none x.form) in
      let all : x.entries - 0 ≡ x.entries = omega arith in
      let there : entries_in h x ≡ revision_index h s k = rw (i, ← w.found) (index-there h s r) in
      record { within = omega arith; none = l.none; left = step ∙ rw (z, here, all, there) }

-- ---- Entry after entry

module _ {h : List ℕ} {s : Setting} {k : ℕ} {x : Index} {found : Checked} {j : ℕ} {e : Entry} {b : Bool} (l : EntriesLeft h s k x found j) (more : j < x.entries)
    (q : e ≡ entry_at x.form h (x.at + entries_width x.form j)) (f : b ≡ page_sum_wrong h s.form.page e) where
  entry_step : check_revisions h s 1 s.count
      ≡ cond b (fault 9 k j)
      (check_entries h s.form.page k (j + 1) (entries_at x.form h (x.at + entries_width x.form (j + 1)) (x.entries - (j + 1))) (check_revisions h s (k + 1) (s.count + 1 - (k + 1))))
  entry_step =
      let at = x.at + entries_width x.form j in
      let g : b ≡ page_sum_wrong h s.form.page (entry_at x.form h at) = rw q at f in
      let a : at + entry_width x.form ≡ x.at + entries_width x.form (j + 1) = rw (add-one j) (omega (arith, entries_next x.form j)) in
      let c : x.entries - j - 1 ≡ x.entries - (j + 1) = omega arith in
      l.left ∙ entries_step x.form h s.form.page k j at (x.entries - j) _ (omega arith) ∙ rw (← g, a, c)

  pub entries-fault : b ≡ true → fault 9 k j ≡ check_revisions h s 1 s.count
  entries-fault t = sym (entry_step ∙ rw t)

  pub entries_turn : b ≡ false → EntriesLeft h s k x found (j + 1)
  entries_turn t = record { within = omega arith; none = l.none; left = entry_step ∙ rw t }

pub entries-end : {h : List ℕ} {s : Setting} {k : ℕ} {x : Index} {found : Checked} {j : ℕ} → EntriesLeft h s k x found j → x.entries ≤ j → k < s.count + 1
    → RevisionsLeft h s found (k + 1)
unfolding check_entries entries_at
entries-end {h} {s} {k} {x} {found} {j} l m more =
    let e : x.entries - j ≡ 0 = omega arith in
    record { from = omega arith; within = omega arith; none = l.none; left = l.left ∙ rw e }

-- ---- The whole check

pub check_refused : (h : List ℕ) {number : ℕ} → number ≡ history_rows h (setting_of h) → (number ≡ 0 → ⊥) → fault number 0 0 ≡ check h
unfolding check
check_refused h {number} e f = rw (← e) (left_alone number _ (fault number 0 0) f)

pub check_passed : (h : List ℕ) {s : Setting} {number : ℕ} {found : Checked} → number ≡ history_rows h (setting_of h) → number ≡ 0 → s ≡ setting_of h
    → found ≡ check_revisions h s 1 s.count → found ≡ check h
unfolding check
check_passed h e z i f = f ∙ rw (← e, z, i)
