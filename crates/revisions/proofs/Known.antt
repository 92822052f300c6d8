-- What row 6 leaves.
use mathlib.Core.Path.{◌≡◌}
use mathlib.Core.Bool.{false}
use mathlib.Core.List.{List}
use Prim.Native.Nat.{ℕ, ◌≤◌}
use Rattle.rules.specs.Rows.{revision_unknown}
use Rattle.rules.specs.Layout.{setting_of}
use Rattle.rules.specs.Calls.{row, ◌then◌, record_rows, asked}
use Rattle.rules.specs.declared.Setting.{Setting}
use Rattle.rules.specs.declared.Record.{Record}
use Rattle.rules.proofs.Locks.{asked-stands}
use Rattle.whole.specs.Sound.{Sound}
use Rattle.records.specs.Sound.{Standing}

-- The revision that is meant, by the number that the code made of it, stands in the history.
pub asked_is : (s : Setting) (revision : ℕ) {k : ℕ} → k ≡ asked s revision → revision_unknown s revision ≡ false → k ≤ s.count
asked_is s revision e h = rw e (asked-stands s revision h)

pub standing_is : {h : List ℕ} {s : Setting} {r : Record} (revision k : ℕ) → k ≡ asked s revision → Standing h s k r → Standing h s (asked s revision) r
standing_is revision k e w = rw e at w

-- The rows of the setting that was read are those of the history's.
pub asked_rows : {h : List ℕ} {s : Setting} (revision n : ℕ) → Sound h s → n ≡ row 6 (revision_unknown s revision) then record_rows h s (asked s revision)
    → n ≡ row 6 (revision_unknown (setting_of h) revision) then record_rows h (setting_of h) (asked (setting_of h) revision)
asked_rows revision n w e = rw w.setting at e
