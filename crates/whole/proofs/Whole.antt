-- Row 5 and row 4, as the code goes through them.
use mathlib.Core.Path.{◌≡◌}
use mathlib.Core.Bool.{Bool, true, false, not, ◌&&◌}
use mathlib.Core.List.{List}
use Prim.Native.Nat.{ℕ, ◌+◌, ◌-◌}
use native.Mathlib.Omega.{arith}
use lib.ListN.{length}
use borrow.Author.Tests.{le-leb, eq-eqb, ne_eqb}
use Rattle.rules.specs.Bytes.{part, same}
use Rattle.rules.specs.Layout.{
  whole_signature,
  version_bytes,
  sum_stands,
  sums_stand,
  setting_with,
  setting_of,
  location_width,
  location_at,
  count_at,
}
use Rattle.rules.specs.Rows.{original_wrong, whole_wrong}
use Rattle.rules.specs.declared.Setting.{Setting}
use Rattle.rules.proofs.Rows.{must_hold}
use Rattle.rules.proofs.Headers.{WholeFacts, whole_facts}
use Rattle.whole.specs.Places.{Lying}

-- ---- Row 5

module _ (h : List ℕ) (s : Setting) where
  -- Where one of the facts fails, the row holds.
  pub whole-fault : (WholeFacts (length h) s → ⊥) → true ≡ whole_wrong h s
  whole-fault f = must_hold _ (λ e. f (whole_facts h s e))

  -- Where none does, the row goes by the start and the checksums.
  pub whole_parts : (m : ℕ) {started summed located : Bool} → WholeFacts (length h) s → m + 4 ≡ s.size
      → started ≡ same (part h s.address 4) whole_signature && same (part h (s.address + 4) 4) (version_bytes s.form)
      → summed ≡ sum_stands h s.address m (s.address + m) → located ≡ sums_stand location_width 16 h (s.address + 16) s.count
      → not (started && summed && located) ≡ whole_wrong h s
  unfolding whole_wrong
  whole_parts m w e b c l =
      let q : s.size - 4 ≡ m = omega arith in
      let o : location_at s 1 ≡ s.address + 16 = omega arith in
      rw (le-leb _ _ w.behind, le-leb _ _ w.ends, eq-eqb _ _ w.sized, le-leb _ _ w.few, q, o, b, c, l)

-- The fields that stand in the header say where the whole history lies, whatever the count is.
pub front_lies : (h : List ℕ) {front : Setting} → front ≡ setting_with h 0 → (Lying (length h) front → ⊥) → true ≡ whole_wrong h (setting_of h)
unfolding setting_of setting_with
front_lies h e f = whole-fault h (setting_of h) (λ w. f (rw e (record { behind = w.behind; ends = w.ends; sized = omega (arith, w.sized) })))

-- The setting with the count that stands behind its start; it lies where the header says.
pub counted-setting : (h : List ℕ) {front t : Setting} {n : ℕ} → front ≡ setting_with h 0 → n ≡ count_at h front.address → t ≡ setting_with h n → t ≡ setting_of h
unfolding setting_of setting_with
counted-setting h e f g = rw (g, f, e)

pub whole_of : (h : List ℕ) {t : Setting} {b : Bool} → t ≡ setting_of h → b ≡ whole_wrong h t → b ≡ whole_wrong h (setting_of h)
whole_of h e f = rw e at f

pub counted_lies : (h : List ℕ) (n room : ℕ) {front t : Setting} → front ≡ setting_with h 0 → t ≡ setting_with h n → Lying room front → Lying room t
unfolding setting_with
counted_lies h n room e g w = let v = rw e at w in rw g (record { behind = v.behind; ends = v.ends; sized = v.sized })

-- ---- Row 4

pub original_differs : (n : ℕ) (h : List ℕ) {front : Setting} → front ≡ setting_with h 0 → (n ≡ front.original → ⊥) → true ≡ original_wrong n (setting_of h)
unfolding original_wrong setting_of setting_with
original_differs n h e f = rw (ne_eqb n _ (rw e at f))

pub original_fits : (n : ℕ) (h : List ℕ) {front : Setting} → front ≡ setting_with h 0 → n ≡ front.original → false ≡ original_wrong n (setting_of h)
unfolding original_wrong setting_of setting_with
original_fits n h e f = rw (eq-eqb n _ (rw e at f))
