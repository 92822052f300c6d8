-- A record's front, stored piece behind piece.
use mathlib.Core.Path.{◌≡◌, refl}
use mathlib.Core.List.{List}
use Prim.Native.Nat.{ℕ, ◌+◌, ◌≤◌}
use native.Mathlib.Omega.{arith}
use lib.ListN.{length, length-append}
use Rattle.rules.specs.Bytes.{number_bytes, laid}
use Rattle.rules.specs.Layout.{record_signature, user_bytes, entry_count_at, front_width, start_bytes, front_bytes}
use Rattle.rules.specs.declared.Form.{Form}
use Rattle.rules.specs.declared.Record.{Record}
use Rattle.rules.proofs.Bytes.{length-number_bytes, laid_then}
use Rattle.rules.proofs.Places.{count-least, length-user_bytes}
use Rattle.rules.proofs.RoundTrips.{length-start}
use Rattle.records.specs.Front.{descent_bytes}

module _ (f : Form) (r : Record) (time : List ℕ) where
  pub descent-laid : (x0 x1 x2 x3 : List ℕ) → r.address + front_width f ≤ length x0
      → x1 ≡ laid x0 r.address (start_bytes f record_signature r.revision) → x2 ≡ laid x1 (r.address + 16) (number_bytes 8 r.parent)
      → x3 ≡ laid x2 (r.address + 24) time → x3 ≡ laid x0 r.address (descent_bytes f r time)
  unfolding descent_bytes
  descent-laid x0 x1 x2 x3 room p1 p2 p3 =
      let at = r.address in
      let wide = length-start f record_signature r.revision refl in
      let least = count-least f in
      let r2 = laid_then x0 x1 x2 _ (number_bytes 8 r.parent) at (at + 16) p1 p2 (rw wide) (omega arith) in
      laid_then x0 x2 x3 _ time at (at + 24) r2 p3 (simp (length-append, length-number_bytes, wide)) (omega arith)

  module _ (sixteen : length time ≡ 16) where
    pub front-laid : (x0 x1 x2 x3 x4 x5 x6 x7 : List ℕ) (user : ℕ) {sizes : ℕ} → r.address + front_width f ≤ length x0 → sizes ≡ r.address + entry_count_at f
        → x1 ≡ laid x0 r.address (descent_bytes f r time)
        → x2 ≡ laid x1 (r.address + 40) (number_bytes 8 r.logical) → x3 ≡ laid x2 (r.address + 48) (number_bytes 4 r.page)
        → x4 ≡ laid x3 (r.address + 52) (user_bytes f user) → x5 ≡ laid x4 sizes (number_bytes 8 r.entries)
        → x6 ≡ laid x5 (sizes + 8) (number_bytes 4 r.name) → x7 ≡ laid x6 (sizes + 12) (number_bytes 4 r.comment)
        → x7 ≡ laid x0 r.address (front_bytes f r time user)
    unfolding front_bytes descent_bytes
    front-laid x0 x1 x2 x3 x4 x5 x6 x7 user {sizes} room z p1 p2 p3 p4 p5 p6 p7 =
        let at = r.address in
        let wide = length-start f record_signature r.revision refl in
        let filled = length-user_bytes f user in
        let least = count-least f in
        let r2 = laid_then x0 x1 x2 _ _ at (at + 40) p1 p2 (simp (length-append, length-number_bytes, wide, sixteen)) (omega arith) in
        let r3 = laid_then x0 x2 x3 _ _ at (at + 48) r2 p3 (simp (length-append, length-number_bytes, wide, sixteen)) (omega arith) in
        let r4 = laid_then x0 x3 x4 _ _ at (at + 52) r3 p4 (simp (length-append, length-number_bytes, wide, sixteen)) (omega arith) in
        let r5 = laid_then x0 x4 x5 _ _ at sizes r4 p5 (simp (length-append, length-number_bytes, wide, sixteen) (omega arith)) (omega arith) in
        let r6 = laid_then x0 x5 x6 _ _ at (sizes + 8) r5 p6 (simp (length-append, length-number_bytes, wide, sixteen) (omega arith)) (omega arith) in
        laid_then x0 x6 x7 _ _ at (sizes + 12) r6 p7 (simp (length-append, length-number_bytes, wide, sixteen) (omega arith)) (omega arith)
