-- What is told, as the code comes to it.
use mathlib.Core.Path.{◌≡◌, sym, ◌∙◌}
use mathlib.Core.List.{List}
use Prim.Native.Nat.{ℕ, zero, suc, ◌+◌, ◌≤◌}
use native.Mathlib.Omega.{arith}
use lib.ListN.{length}
use Rattle.rules.specs.Layout.{limit, entry_limit, user_at, front_width, setting_of, time_at, name_at, record_of}
use Rattle.rules.specs.Calls.{history_rows, record_rows, asked, browse_rows}
use Rattle.rules.specs.Telling.{setting_told, setting_untold, tell_setting, nowhere, record_told, record_untold, tell_record}
use Rattle.rules.specs.declared.Form.{Form}
use Rattle.rules.specs.declared.Setting.{Setting}
use Rattle.rules.specs.declared.Record.{Record}
use Rattle.rules.specs.declared.SettingTold.{SettingTold}
use Rattle.rules.specs.declared.RecordTold.{RecordTold}
use Rattle.rules.proofs.Rows.{then-clear, left_alone}
use Rattle.whole.specs.Sound.{Sound}
use Rattle.records.specs.Sound.{Standing}
use Rattle.records.proofs.Room.{front-room}

-- ---- The setting

module _ (h : List ℕ) {number : ℕ} (e : number ≡ history_rows h (setting_of h)) {t : SettingTold} where
  pub setting_refused : (number ≡ 0 → ⊥) → t ≡ setting_untold number → t ≡ tell_setting h
  unfolding tell_setting
  setting_refused f q = q ∙ rw (← e) (left_alone number _ _ f)

  pub setting_told_lem : {s : Setting} → number ≡ 0 → Sound h s → t ≡ setting_told s → t ≡ tell_setting h
  unfolding tell_setting
  setting_told_lem z w q = q ∙ rw (← e, z, w.setting)

-- ---- A record

module _ (h : List ℕ) (revision : ℕ) {number : ℕ} (e : number ≡ browse_rows h revision) {t : RecordTold} where
  pub record_refused : (number ≡ 0 → ⊥) → t ≡ record_untold number → t ≡ tell_record h revision
  unfolding tell_record
  record_refused f q = q ∙ rw (← e) (left_alone number _ _ f)

  module _ {s : Setting} {r : Record} {k : ℕ} (z : number ≡ 0) (w : Standing h s (asked s revision) r) (a : k ≡ asked s revision) where
    pub record_tells : t ≡ record_told h s.form k r → t ≡ tell_record h revision
    unfolding tell_record
    record_tells q = q ∙ rw (← e, z, a, w.found, w.sound.setting)

    -- The original.
    pub original_tells : k ≡ 0
        → t ≡ record { number = 0; revision = 0; parent = 0; logical = r.logical; user = 0; entries = 0; time = nowhere; name = nowhere; comment = nowhere } → t ≡ tell_record h revision
    unfolding record_told
    original_tells n q = record_tells (q ∙ rw n)

-- Its fields, one by one.
pub fields_told : (h : List ℕ) (f : Form) (k : ℕ) (r : Record) {user time name : ℕ} → 1 ≤ k → user ≡ user_at f h r.address → time ≡ time_at r → name ≡ name_at f r
    → ◌≡◌ {A = RecordTold}
    (record {
      number = 0;
      revision = k;
      parent = r.parent;
      logical = r.logical;
      user = user;
      entries = r.entries;
      time = record { offset = time; length = 16 };
      name = record { offset = name; length = r.name };
      comment = record { offset = name + r.name; length = r.comment };
    })
    (record_told h f k r)
unfolding record_told
fields_told h f zero r l a b c = absurd (omega arith)
fields_told h f (suc k) r l a b c = rw (a, b, c)

-- There is room for what is read of a record.
pub record-room : (h : List ℕ) (revision : ℕ) {number : ℕ} {s : Setting} {r : Record} {k : ℕ} → number ≡ browse_rows h revision → number ≡ 0 → Standing h s (asked s revision) r → k ≡ asked s revision → (k ≡ 0 → ⊥)
    → (1 ≤ k) × (r.address + front_width s.form ≤ length h) × (length h ≤ limit) × (r.entries ≤ entry_limit) × (r.name ≤ limit)
unfolding browse_rows
record-room h revision {number} {s} {r} {k} e z w a f =
    let rows : record_rows h s k ≡ 0 = rw (a, w.sound.setting) (then-clear _ _ (then-clear _ _ (sym e ∙ z)).1).1 in
    let room = front-room h s k w.sound rows (omega arith) in
    let found : r ≡ record_of h s k = rw a w.found in
    (omega arith, rw found room.0, w.sound.short, rw found room.1, rw found room.2)
