-- A record whose rows have passed lies within the history.
use mathlib.Core.Path.{◌≡◌, refl, sym}
use mathlib.Core.List.{List}
use Prim.Native.Nat.{ℕ, zero, suc, ◌+◌, ◌≤◌, ◌<◌}
use native.Mathlib.Omega.{arith}
use lib.ListN.{length}
use Rattle.rules.specs.Layout.{limit, entry_limit, address_at, front_width, located_size, location_at, record_of}
use Rattle.rules.specs.Calls.{record_rows}
use Rattle.rules.specs.declared.Setting.{Setting}
use Rattle.rules.specs.declared.Record.{Record}
use Rattle.rules.proofs.Places.{end-behind}
use Rattle.rules.proofs.Records.{LiesFacts, rows_pass}
use Rattle.whole.specs.Sound.{Sound}
use Rattle.records.proofs.Fields.{is_record, record_address}

pub front-room : (h : List ℕ) (s : Setting) (k : ℕ) → Sound h s → record_rows h s k ≡ 0 → 0 < k
    → ((record_of h s k).address + front_width s.form ≤ length h) × ((record_of h s k).entries ≤ entry_limit) × ((record_of h s k).name ≤ limit)
front-room h s zero w z l = absurd (omega arith)
front-room h s (suc k) w z l =
    let r : Record = record_of h s (suc k) in
    let lies : LiesFacts s r = (rows_pass h s k z).0.lies in
    (omega (arith, lies.ends, lies.sized, end-behind s.form r.address r.size, w.inside), lies.few, omega (arith, lies.named))

-- So it can be read where its location says.
pub located-room : (h : List ℕ) (s : Setting) (k : ℕ) {at size : ℕ} → Sound h s → record_rows h s k ≡ 0 → 0 < k → at ≡ address_at s.form h (location_at s k) → size ≡ located_size h (location_at s k)
    → at + front_width s.form ≤ length h
located-room h s k {at} {size} w z l ea ez =
    omega (arith, (front-room h s k w z l).0, record_address s.form h at size (sym (is_record h s k l ea ez refl)))
