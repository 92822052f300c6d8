-- How parts start and end, as they are stored piece behind piece.
use mathlib.Core.Path.{◌≡◌, ◌∙◌}
use mathlib.Core.List.{List}
use Prim.Native.Nat.{ℕ, ◌+◌, ◌-◌, ◌≤◌}
use native.Mathlib.Omega.{arith}
use lib.ListN.{length, length-append}
use Rattle.rules.specs.Bytes.{part, number_bytes, laid}
use Rattle.rules.specs.Checksum.{checksum}
use Rattle.rules.specs.Layout.{version_bytes, start_bytes, summed}
use Rattle.rules.specs.declared.Form.{Form}
use Rattle.rules.proofs.Bytes.{part-laid, laid_then}

pub start-laid : (f : Form) (x0 x1 x2 x3 signature : List ℕ) (at number : ℕ) → length signature ≡ 4 → at + 16 ≤ length x0
    → x1 ≡ laid x0 at signature → x2 ≡ laid x1 (at + 4) (version_bytes f) → x3 ≡ laid x2 (at + 8) (number_bytes 8 number)
    → x3 ≡ laid x0 at (start_bytes f signature number)
unfolding start_bytes
start-laid f x0 x1 x2 x3 signature at number wide room p1 p2 p3 =
    let r2 = laid_then x0 x1 x2 signature (version_bytes f) at (at + 4) p1 p2 (rw wide) (omega arith) in
    laid_then x0 x2 x3 _ (number_bytes 8 number) at (at + 8) r2 p3 (simp (length-append, wide)) (omega arith)

-- The checksum that is stored behind a part, of the part that stands there by then.
pub summed-laid : (x0 x1 x2 bytes : List ℕ) (at end : ℕ) → x1 ≡ laid x0 at bytes → at + length bytes ≡ end → end ≤ length x0
    → x2 ≡ laid x1 end (number_bytes 4 (checksum (part x1 at (end - at)))) → x2 ≡ laid x0 at (summed bytes)
unfolding summed
summed-laid x0 x1 x2 bytes at end p e room q =
    let span : end - at ≡ length bytes = omega arith in
    let stands : part x1 at (end - at) ≡ bytes = rw (span, p) (part-laid x0 at bytes (omega arith)) in
    laid_then x0 x1 x2 bytes (number_bytes 4 (checksum bytes)) at end p (q ∙ rw stands) e room
