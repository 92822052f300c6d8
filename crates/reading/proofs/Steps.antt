-- Rows and bytes of a read, from what its steps find.
use mathlib.Core.Path.{◌≡◌, ◌∙◌}
use mathlib.Core.Bool.{false}
use mathlib.Core.List.{List, []}
use Prim.Native.Nat.{ℕ, ◌+◌, ◌-◌, ◌≤◌}
use native.Mathlib.Omega.{arith}
use lib.Dec.{ltb}
use lib.ListN.{length}
use Rattle.std.proofs.lemmas.Bool.Decides.{nat_tests}
use borrow.Author.Tests.{ltb-false}
use Rattle.rules.specs.Bytes.{tabulate}
use Rattle.rules.specs.Layout.{entries_in}
use Rattle.rules.specs.View.{shown_byte, pages_shared}
use Rattle.rules.specs.Rows.{read_outside, pages_wrong}
use Rattle.rules.specs.Calls.{row, ◌then◌, accepted, asked, revision_rows, read_rows, read_bytes, read}
use Rattle.rules.specs.declared.Setting.{Setting}
use Rattle.rules.specs.declared.Record.{Record}
use Rattle.rules.specs.declared.Index.{Index}
use Rattle.rules.proofs.Rows.{rows_hold, rows_past}
use Rattle.records.specs.Sound.{Standing, index_in}
use Rattle.records.proofs.Fields.{index-there}
use Rattle.reading.proofs.Seen.{view-bytes, no_own}

-- ---- Row 10

pub outside-near : (size at n : ℕ) → at ≤ size → ltb (size - at) n ≡ read_outside size at n
unfolding read_outside
outside-near size at n h = grind (arith, nat_tests)

pub inside_fits : (size at n : ℕ) → read_outside size at n ≡ false → at + n ≤ size
unfolding read_outside
inside_fits size at n e = ltb-false size (at + n) e

-- ---- A read

module _ (o h : List ℕ) (revision at n : ℕ) where
  pub read_refused : {k : ℕ} → k ≡ revision_rows o h revision → (k ≡ 0 → ⊥) → k ≡ read_rows o h revision at n
  unfolding read_rows
  read_refused e f = rows_hold _ _ e f

  module _ {s : Setting} {r : Record} (w : Standing h s (asked s revision) r) {x : Index} (ex : x ≡ index_in s r) where
    -- The rows behind 1 to 8, of the view of the record.
    pub read_behind : {k j : ℕ} → k ≡ revision_rows o h revision → k ≡ 0
        → j ≡ row 10 (read_outside r.logical at n) then row 9 (pages_wrong [] h x.form.page (entries_in h x) (pages_shared x.form.page at n))
        → j ≡ read_rows o h revision at n
    unfolding read_rows index_in
    read_behind e z q = rows_past _ e z (q ∙ rw (ex, index-there h s r, w.found, w.sound.setting))

    pub read_gives : {out : List ℕ} (end : ℕ) → out ≡ tabulate n (λ j. shown_byte o h x.form.page (entries_in h x) end [] (at + j)) → out ≡ read_bytes o h revision at n
    unfolding read_bytes
    read_gives end e = e ∙ view-bytes w ex o [] end at n ∙ no_own o h s r end at n ∙ rw (w.found, w.sound.setting)

-- Its answer and what it leaves in the buffer.
pub read_answers : (o h : List ℕ) (revision at : ℕ) (out : List ℕ) {n : ℕ} {bytes : List ℕ} → n ≡ read_rows o h revision at (length out)
    → bytes ≡ accepted n (read_bytes o h revision at (length out)) out → record { number = n; bytes = bytes } ≡ read o h revision at out
unfolding read
read_answers o h revision at out e f = rw (f, e)
