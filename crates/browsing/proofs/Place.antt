-- The place of a revision's record, as the code comes to it.
use mathlib.Core.Path.{◌≡◌, refl}
use mathlib.Core.List.{List}
use Prim.Native.Nat.{ℕ, zero, suc, ◌+◌, ◌≤◌}
use native.Mathlib.Omega.{arith}
use lib.ListN.{length}
use Rattle.rules.specs.Layout.{setting_of, record_of}
use Rattle.rules.specs.Calls.{history_rows, record_rows, asked, browse_rows, browse}
use Rattle.rules.specs.declared.Setting.{Setting}
use Rattle.rules.specs.declared.Record.{Record}
use Rattle.rules.specs.declared.Browsed.{Browsed}
use Rattle.rules.proofs.Places.{end-behind}
use Rattle.rules.proofs.Rows.{row-clear, then-clear, left_alone}
use Rattle.rules.proofs.Records.{rows_pass}
use Rattle.whole.proofs.Sound.{sound}
use Rattle.records.specs.Sound.{Standing}

-- ---- The place

module _ (h : List ℕ) (revision : ℕ) {number : ℕ} (e : number ≡ browse_rows h revision) where
  pub place_refused : (number ≡ 0 → ⊥) → ◌≡◌ {A = Browsed} (record { number = number; offset = 0; length = 0 }) (browse h revision)
  unfolding browse
  place_refused f = rw (← e) (left_alone number _ _ f)

  pub place_found : {s : Setting} {r : Record} → number ≡ 0 → Standing h s (asked s revision) r
      → ◌≡◌ {A = Browsed} (record { number = 0; offset = r.address; length = r.size }) (browse h revision)
  unfolding browse
  place_found z w = rw (← e, z, w.found, w.sound.setting)

-- ---- Its bytes

-- The record ends within the history.
record-ends : (h : List ℕ) (s : Setting) (k : ℕ) → s.address ≤ length h → record_rows h s k ≡ 0 → (record_of h s k).address + (record_of h s k).size ≤ length h
unfolding record_of
record-ends h s zero l z = omega arith
record-ends h s (suc k) l z =
    let r = record_of h s (suc k) in
    let f = (rows_pass h s k z).0.lies in
    omega (arith, f.ends, end-behind s.form r.address r.size)

-- What passes its rows has a whole history, ahead of which the record lies.
rows-ends : (h : List ℕ) (revision : ℕ) → browse_rows h revision ≡ 0
    → (record_of h (setting_of h) (asked (setting_of h) revision)).address + (record_of h (setting_of h) (asked (setting_of h) revision)).size ≤ length h
unfolding browse_rows history_rows
rows-ends h revision z =
    let a = then-clear _ _ z in
    let b = then-clear _ _ a.0 in
    let w = sound h b.0 refl (row-clear 5 _ (omega arith) b.1) in
    record-ends h (setting_of h) (asked (setting_of h) revision) (omega (arith, w.inside)) (then-clear _ _ a.1).1

-- So there is room for what was placed.
pub place-room : (h : List ℕ) (revision : ℕ) {b : Browsed} → b ≡ browse h revision → b.offset + b.length ≤ length h
unfolding browse
place-room h revision q = rw q (go (browse_rows h revision) refl)
  where
    go : (n : ℕ) → browse_rows h revision ≡ n → (browse h revision).offset + (browse h revision).length ≤ length h
    go zero z = rw z (rows-ends h revision z)
    go (suc n) z = rw z (omega arith)
