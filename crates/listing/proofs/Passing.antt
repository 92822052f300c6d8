-- The list program's rows, as the code goes through them.
use mathlib.Core.Path.{◌≡◌, refl, sym, ap, ◌∙◌}
use mathlib.Core.Bool.{true, or-true, or-false, false≢true}
use mathlib.Core.List.{List}
use Prim.Native.Nat.{ℕ, zero, suc, ◌+◌, ◌-◌, ◌≤◌, ◌<◌}
use native.Mathlib.Numerals.{add-one}
use native.Mathlib.Omega.{arith}
use lib.ListN.{length}
use borrow.Author.Tests.{lt-ltb, le-ltb}
use Rattle.rules.specs.Layout.{header_width, setting_of, record_of, name_of, text_right}
use Rattle.rules.specs.Rows.{length_wrong}
use Rattle.rules.specs.Calls.{◌then◌, header_rows, history_rows, record_rows, records_rows}
use Rattle.rules.specs.Listing.{list_rows}
use Rattle.rules.specs.declared.Form.{Form}
use Rattle.rules.specs.declared.Setting.{Setting}
use Rattle.rules.specs.declared.Record.{Record}
use Rattle.rules.proofs.Places.{end-behind}
use Rattle.rules.proofs.Rows.{then_assoc, row-holds, rows_hold, rows_past, then-clear}
use Rattle.rules.proofs.Records.{RecordRight, rows_pass}
use Rattle.whole.specs.Sound.{Sound}
use Rattle.listing.specs.Written.{Shown}

-- ---- The first rows

-- Longer input counts as 1.
pub list_over : (most : ℕ) (h : List ℕ) → most < length h → 1 ≡ list_rows most h
unfolding list_rows
list_over most h l = row-holds 1 _ (omega arith) refl (rw (lt-ltb most (length h) l) (or-true (length_wrong header_width (length h))))

-- Of any other, the rows of a history come first.
list-within : (most : ℕ) (h : List ℕ) → length h ≤ most → list_rows most h ≡ (history_rows h (setting_of h) then records_rows h (setting_of h) 1 (setting_of h).count)
unfolding list_rows history_rows header_rows
list-within most h l = rw (le-ltb most (length h) l, or-false (length_wrong header_width (length h))) (simp then_assoc)

pub list-fault : (most : ℕ) (h : List ℕ) {n : ℕ} → length h ≤ most → n ≡ history_rows h (setting_of h) → (n ≡ 0 → ⊥) → n ≡ list_rows most h
list-fault most h {n} l e f = rows_hold _ n e f ∙ sym (list-within most h l)

pub list_past : (most : ℕ) (h : List ℕ) {s : Setting} {n m : ℕ} → length h ≤ most → n ≡ history_rows h (setting_of h) → n ≡ 0 → Sound h s
    → m ≡ records_rows h s 1 s.count → m ≡ list_rows most h
list_past most h {s} {n} {m} l e z w f =
    rows_past _ e z (f ∙ ap (λ (t : Setting). records_rows h t 1 t.count) w.setting) ∙ sym (list-within most h l)

-- ---- The rows of records

records_step : (h : List ℕ) (s : Setting) (k m : ℕ) → 0 < m → records_rows h s k m ≡ (record_rows h s k then records_rows h s (suc k) (m - 1))
unfolding records_rows
records_step h s k zero l = absurd (omega arith)
records_step h s k (suc m) l = let e : suc m - 1 ≡ m = omega arith in rw e

-- The records ahead of k have passed.
pub record RowsLeft (h : List ℕ) (s : Setting) (k : ℕ) : Type 0 where
  pub within : k ≤ s.count + 1
  pub left : records_rows h s 1 s.count ≡ records_rows h s k (s.count + 1 - k)

pub rows_start : (h : List ℕ) (s : Setting) → RowsLeft h s 1
rows_start h s = let e : s.count + 1 - 1 ≡ s.count = omega arith in record { within = omega arith; left = rw e }

module _ {h : List ℕ} {s : Setting} {k : ℕ} (l : RowsLeft h s k) (more : k ≤ s.count) where
  next : records_rows h s 1 s.count ≡ (record_rows h s k then records_rows h s (k + 1) (s.count + 1 - (k + 1)))
  next =
      let e : s.count + 1 - k - 1 ≡ s.count + 1 - (k + 1) = omega arith in
      l.left ∙ records_step h s k (s.count + 1 - k) (omega arith) ∙ rw (e, ← add-one k)

  pub rows-fault : {n : ℕ} → n ≡ record_rows h s k → (n ≡ 0 → ⊥) → n ≡ records_rows h s 1 s.count
  rows-fault {n} e f = rows_hold _ n e f ∙ sym next

  pub rows_turn : {n : ℕ} → n ≡ record_rows h s k → n ≡ 0 → RowsLeft h s (k + 1)
  rows_turn e z = record { within = omega arith; left = next ∙ sym (rows_past _ e z refl) }

  -- Where all pass, the next one does.
  pub rows-clear : records_rows h s 1 s.count ≡ 0 → record_rows h s k ≡ 0
  rows-clear z = (then-clear _ _ (sym next ∙ z)).0

pub rows_end : {h : List ℕ} {s : Setting} {k : ℕ} → RowsLeft h s k → s.count < k → 0 ≡ records_rows h s 1 s.count
unfolding records_rows
rows_end {h} {s} {k} l m = let e : s.count + 1 - k ≡ 0 = omega arith in sym (l.left ∙ rw e)

-- ---- A record that has passed can be shown

-- A name has its closing zero at least.
named : (h : List ℕ) (f : Form) (r : Record) → text_right (name_of h f r) ≡ true → 1 ≤ r.name
unfolding text_right
named h f r e = go r.name refl
  where
    go : (n : ℕ) → r.name ≡ n → 1 ≤ r.name
    go zero q = absurd (false≢true (rw q at e))
    go (suc n) q = omega arith

right-shown : (h : List ℕ) (s : Setting) (k : ℕ) (r : Record) → Sound h s → RecordRight h s k r → Shown h s.form r
right-shown h s k r w e =
    let f = e.lies in
    record {
      named = named h s.form r e.named;
      few = f.named;
      indexed = f.few;
      inside = omega (arith, f.ends, f.sized, end-behind s.form r.address r.size, w.inside);
      short = w.short;
    }

pub record-shown : (h : List ℕ) (s : Setting) (k : ℕ) {r : Record} → 0 < k → record_rows h s k ≡ 0 → Sound h s → r ≡ record_of h s k → Shown h s.form r
record-shown h s zero l z w e = absurd (omega arith)
record-shown h s (suc k) l z w e = rw e (right-shown h s (suc k) (record_of h s (suc k)) w (rows_pass h s k z).0)
