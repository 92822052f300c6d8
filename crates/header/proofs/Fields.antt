-- The header's rows and its bytes, as the code goes through them.
use mathlib.Core.Path.{◌≡◌, refl, ◌∙◌}
use mathlib.Core.Bool.{Bool, false, not, ◌&&◌}
use mathlib.Core.List.{List, ◌∷◌}
use Prim.Native.Nat.{ℕ, ◌+◌, ◌*◌, ◌-◌, ◌/◌, ◌%◌, ◌≤◌, ◌<◌}
use native.Mathlib.Omega.{arith}
use lib.Dec.{eqb, leb, ltb}
use lib.ListN.{length}
use borrow.Author.Tests.{lt-leb, le-leb}
use Rattle.rules.specs.Bytes.{byte_at, part, number_at, number_bytes, laid, same}
use Rattle.rules.specs.Checksum.{checksum}
use Rattle.rules.specs.Layout.{
  page_allowed,
  limit,
  version,
  address_at,
  address_bytes,
  header_signature,
  summed,
  flags_of,
  header_width,
  header_front,
  header_bytes,
  form_of,
  setting_with,
}
use Rattle.rules.specs.Rows.{header_wrong}
use Rattle.rules.specs.declared.Form.{Form}
use Rattle.rules.specs.declared.Setting.{Setting}
use Rattle.rules.proofs.Bytes.{laid_then, laid_whole}
use Rattle.rules.proofs.Places.{length-address_bytes}
use Rattle.rules.proofs.RoundTrips.{length-summed, front_long}
use Rattle.parts.proofs.Laid.{summed-laid}

pub page-small : (p : ℕ) → p < 16 → false ≡ page_allowed p
unfolding page_allowed
page-small p h = rw (lt-leb 16 p h)

pub page_large : (p : ℕ) → 16 ≤ p → eqb (4096 % p) 0 ≡ page_allowed p
unfolding page_allowed
page_large p h = rw (le-leb 16 p h)

-- What row 2 asks, found part after part.
pub header_parts : (h : List ℕ) {signed flagged allowed : Bool} {f : Form} {versioned original : ℕ} → signed ≡ same (part h 0 4) header_signature
    → versioned ≡ version f → flagged ≡ ltb (byte_at h 5) 4 → f ≡ form_of h → allowed ≡ page_allowed f.page → original ≡ number_at 8 h 12
    → not (signed && eqb (byte_at h 4) versioned && flagged && eqb (byte_at h 6) 0 && eqb (byte_at h 7) 0 && allowed && leb original limit) ≡ header_wrong h
unfolding header_wrong
header_parts h a v b c d e = rw (a, v, b, d, c, e)

-- The fields, one by one.
pub setting_parts : (h : List ℕ) (count : ℕ) {f : Form} {original address size : ℕ} {lock branching : Bool} → f ≡ form_of h
    → original ≡ number_at 8 h 12 → address ≡ address_at f h 20 → size ≡ number_at 8 h 28 → lock ≡ eqb (byte_at h 5 % 2) 1
    → branching ≡ eqb (byte_at h 5 / 2 % 2) 1
    → ◌≡◌ {A = Setting} (record { form = f; original = original; address = address; size = size; count = count; lock = lock; branching = branching }) (setting_with h count)
unfolding setting_with
setting_parts h count a b c d e f = rw (b, c, d, e, f, a)

-- ---- Bytes

-- The version and the flags are one number of four bytes.
version_flags : (v flags : ℕ) → v < 256 → number_bytes 4 (v + flags * 256) ≡ v ∷ number_bytes 3 flags
unfolding number_bytes
version_flags v flags h =
    let a : (v + flags * 256) % 256 ≡ v = omega arith in
    let b : (v + flags * 256) / 256 ≡ flags = omega arith in
    rw (a, b)

-- Six stores, one behind the other, are the header's front.
pub front_stores : (x0 x1 x2 x3 x4 x5 x6 : List ℕ) (s : Setting) {flags v : ℕ} → header_width ≤ length x0 → flags ≡ flags_of s → v ≡ version s.form → v < 256
    → x1 ≡ laid x0 0 header_signature → x2 ≡ laid x1 4 (number_bytes 4 (v + flags * 256)) → x3 ≡ laid x2 8 (number_bytes 4 s.form.page)
    → x4 ≡ laid x3 12 (number_bytes 8 s.original) → x5 ≡ laid x4 20 (address_bytes s.form s.address)
    → x6 ≡ laid x5 28 (number_bytes 8 s.size) → x6 ≡ laid x0 0 (header_front s)
unfolding header_front number_bytes
front_stores x0 x1 x2 x3 x4 x5 x6 s {flags} {v} h e o small p1 p2 p3 p4 p5 p6 =
    let q2 : x2 ≡ laid x1 4 (version s.form ∷ number_bytes 3 (flags_of s)) = p2 ∙ rw (version_flags v flags small, e, o) in
    let r2 = laid_then x0 x1 x2 header_signature (version s.form ∷ number_bytes 3 (flags_of s)) 0 4 p1 q2 refl (omega arith) in
    let r3 = laid_then x0 x2 x3 _ (number_bytes 4 s.form.page) 0 8 r2 p3 refl (omega arith) in
    let r4 = laid_then x0 x3 x4 _ (number_bytes 8 s.original) 0 12 r3 p4 refl (omega arith) in
    let r5 = laid_then x0 x4 x5 _ (address_bytes s.form s.address) 0 20 r4 p5 refl (omega arith) in
    laid_then x0 x5 x6 _ (number_bytes 8 s.size) 0 28 r5 p6 (simp length-address_bytes) (omega arith)

-- The front and the checksum behind it fill a buffer of the header's width.
pub header_stores : (x0 x1 x2 : List ℕ) (s : Setting) → length x0 ≡ header_width → x1 ≡ laid x0 0 (header_front s)
    → x2 ≡ laid x1 (header_width - 4) (number_bytes 4 (checksum (part x1 0 (header_width - 4)))) → x2 ≡ header_bytes s
unfolding header_bytes
header_stores x0 x1 x2 s h p q =
    let l = front_long s in
    summed-laid x0 x1 x2 (header_front s) 0 (header_width - 4) p (omega arith) (omega arith) q ∙ laid_whole x0 (summed (header_front s)) (length-summed (header_front s) ∙ omega arith)
