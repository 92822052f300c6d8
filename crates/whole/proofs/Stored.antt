-- Locations and whole histories, stored piece behind piece.
use mathlib.Core.Path.{◌≡◌, refl, ◌∙◌}
use mathlib.Core.List.{List, [], ◌++◌, append_assoc, append-nil}
use Prim.Native.Nat.{ℕ, ◌+◌, ◌*◌, ◌-◌, ◌≤◌}
use native.Mathlib.Omega.{arith}
use lib.ListN.{length, length-append}
use Rattle.rules.specs.Bytes.{part, number_bytes, laid}
use Rattle.rules.specs.Checksum.{checksum}
use Rattle.rules.specs.Layout.{whole_signature, address_bytes, start_bytes, whole_size, whole_bytes, location_width, location_bytes, location_at}
use Rattle.rules.specs.Session.{setting_stored}
use Rattle.rules.specs.declared.Form.{Form}
use Rattle.rules.specs.declared.Setting.{Setting}
use Rattle.rules.specs.declared.Record.{Record}
use Rattle.rules.proofs.Bytes.{length-number_bytes, length_part, part-laid-below, laid_then}
use Rattle.rules.proofs.Places.{end-behind, length-address_bytes}
use Rattle.rules.proofs.RoundTrips.{length-location_bytes, length-start}
use Rattle.parts.proofs.Laid.{summed-laid}
use Rattle.whole.specs.Places.{Extensible}

pub location-laid : (f : Form) (x0 x1 x2 x3 : List ℕ) (to address size : ℕ) → to + location_width ≤ length x0
    → x1 ≡ laid x0 to (address_bytes f address) → x2 ≡ laid x1 (to + 8) (number_bytes 8 size)
    → x3 ≡ laid x2 (to + 16) (number_bytes 4 (checksum (part x2 to (to + 16 - to))))
    → x3 ≡ laid x0 to (location_bytes f address size)
unfolding location_bytes
location-laid f x0 x1 x2 x3 to address size room p1 p2 p3 =
    let l = length-address_bytes f address in
    let r2 = laid_then x0 x1 x2 (address_bytes f address) (number_bytes 8 size) to (to + 8) p1 p2 (rw l) (omega arith) in
    summed-laid x0 x2 x3 _ to (to + 16) r2 (simp (length-append, length-number_bytes, l)) (omega arith) p3

pub empty-laid : (f : Form) (x0 x1 x2 : List ℕ) (at : ℕ) → at + whole_size 0 ≤ length x0 → x1 ≡ laid x0 at (start_bytes f whole_signature 0)
    → x2 ≡ laid x1 (at + 16) (number_bytes 4 (checksum (part x1 at (at + 16 - at)))) → x2 ≡ laid x0 at (whole_bytes f 0 [])
unfolding whole_bytes
empty-laid f x0 x1 x2 at room p q =
    rw append-nil (summed-laid x0 x1 x2 (start_bytes f whole_signature 0) at (at + 16) p (omega (arith, length-start f whole_signature 0 refl)) (omega arith) q)

module _ {x0 : List ℕ} {s : Setting} {r : Record} (y : Extensible x0 s r) where
  -- The new whole history has room behind the record.
  pub room : (setting_stored s r).address + whole_size (s.count + 1) ≤ length x0
  room = omega (arith, y.room, end-behind s.form (setting_stored s r).address (whole_size (s.count + 1)))

  pub behind : r.address ≤ (setting_stored s r).address
  behind = omega (arith, end-behind s.form r.address r.size)

-- Four stores, one behind the other. The locations are copied from below the start, which was not laid over them.
module _ {x0 : List ℕ} {s : Setting} {r : Record} (y : Extensible x0 s r) {at : ℕ} (e : at ≡ (setting_stored s r).address) (x1 x2 x3 x4 : List ℕ) where
  abbrev standing : ℕ
  standing = location_width * s.count

  abbrev start : List ℕ
  start = start_bytes s.form whole_signature (s.count + 1)

  abbrev copied : List ℕ
  copied = part x0 (location_at s 1) standing

  abbrev added : List ℕ
  added = location_bytes s.form r.address r.size

  wide : length start ≡ 16
  wide = length-start s.form whole_signature (s.count + 1) refl

  long : length (start ++ copied) ≡ 16 + standing
  long = simp (length-append, wide, length_part x0 (location_at s 1) standing (omega (arith, y.ahead, e, room y, behind y)))

  longer : length (start ++ (copied ++ added)) ≡ 16 + standing + location_width
  longer = rw (← append_assoc start copied added, length-append) (omega (arith, long, length-location_bytes s.form r.address r.size))

  module _ (p1 : x1 ≡ laid x0 at start) (p2 : x2 ≡ laid x1 (at + 16) (part x1 (s.address + 16) standing)) (p3 : x3 ≡ laid x2 (at + 16 + standing) added) where
    same : part x1 (s.address + 16) standing ≡ copied
    same =
        let spot : s.address + 16 ≡ location_at s 1 = omega arith in
        rw (p1, ← spot) (part-laid-below x0 at start (omega (arith, wide, e, room y)) (s.address + 16) standing (omega (arith, e, y.ahead, behind y)))

    stored : x3 ≡ laid x0 at (start ++ (copied ++ added))
    stored =
        let r2 : x2 ≡ laid x0 at (start ++ copied) = laid_then x0 x1 x2 start copied at (at + 16) p1 (p2 ∙ rw same) (rw wide) (omega (arith, e, room y)) in
        laid_then x0 x2 x3 (start ++ copied) added at (at + 16 + standing) r2 p3 (omega (arith, long)) (omega (arith, e, room y)) ∙ rw append_assoc

    pub whole-laid : x4 ≡ laid x3 (at + 16 + standing + location_width) (number_bytes 4 (checksum (part x3 at (at + 16 + standing + location_width - at))))
        → x4 ≡ laid x0 (setting_stored s r).address (whole_bytes s.form (s.count + 1) (copied ++ added))
    unfolding whole_bytes
    whole-laid p4 =
        rw (← e) (summed-laid x0 x3 x4 (start ++ (copied ++ added)) at (at + 16 + standing + location_width) stored (omega (arith, longer)) (omega (arith, e, room y)) p4)
