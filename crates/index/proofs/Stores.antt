-- An entry put by four stores, each behind the one before it.
use mathlib.Core.Path.{◌≡◌, ap, ◌∙◌}
use mathlib.Core.List.{List, ◌++◌}
use Prim.Native.Nat.{ℕ, ◌+◌, ◌≤◌}
use native.Mathlib.Omega.{arith}
use lib.ListN.{length, length-append}
use Rattle.rules.specs.Bytes.{part, number_bytes, laid}
use Rattle.rules.specs.Checksum.{checksum}
use Rattle.rules.specs.Layout.{address_bytes, page_sum_bytes, entry_sum_at, entry_width, entry_bytes}
use Rattle.rules.specs.declared.Form.{Form}
use Rattle.rules.specs.declared.Entry.{Entry}
use Rattle.rules.proofs.Bytes.{length-number_bytes, part-laid, laid_then}
use Rattle.rules.proofs.Places.{entry-least, length-address_bytes, length-page_sum_bytes}

-- The last of the four is the checksum of what the first two of them stored.
module _ (f : Form) (x0 x1 x2 x3 x4 : List ℕ) (to sum sum_at : ℕ) (e : Entry) (room : to + entry_width f ≤ length x0) where
  addresses : List ℕ
  addresses = number_bytes 8 e.logical ++ address_bytes f e.physical

  length_addresses : length addresses ≡ 16
  unfolding addresses
  length_addresses = simp (length-append, length-number_bytes, length-address_bytes)

  pub entry-laid : x1 ≡ laid x0 to (number_bytes 8 e.logical) → x2 ≡ laid x1 (to + 8) (address_bytes f e.physical)
      → sum ≡ checksum (part x2 to 16)
      → x3 ≡ laid x2 (to + 16) (page_sum_bytes f e.checksum)
      → sum_at ≡ entry_sum_at f
      → x4 ≡ laid x3 (to + sum_at) (number_bytes 4 sum)
      → x4 ≡ laid x0 to (entry_bytes f e)
  unfolding addresses entry_bytes
  entry-laid p q s r a t =
      let wide = length_addresses in
      let least = entry-least f in
      let all : length (addresses ++ page_sum_bytes f e.checksum) ≡ entry_sum_at f = length-append addresses (page_sum_bytes f e.checksum) ∙ rw wide (length-page_sum_bytes f e.checksum) in
      let two : x2 ≡ laid x0 to addresses = laid_then x0 x1 x2 _ _ to (to + 8) p q (rw length-number_bytes) (omega arith) in
      let three : x3 ≡ laid x0 to (addresses ++ page_sum_bytes f e.checksum) = laid_then x0 x2 x3 addresses _ to (to + 16) two r (rw wide) (omega arith) in
      let same : sum ≡ checksum addresses = s ∙ rw (← wide, two) (ap checksum (part-laid x0 to addresses (omega arith))) in
      rw (← same) (laid_then x0 x3 x4 _ _ to (to + sum_at) three t (rw (all, a)) (omega arith))

-- An entry has room for its addresses.
pub ruleset placed = (entry-least)
