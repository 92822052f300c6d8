-- The promises over a `Reader` leave no choice: two outcomes that one of them allows are the same. What a step gives is determined as `step_at` is.
use mathlib.Core.Path.{◌≡◌, sym, ◌∙◌}
use mathlib.Core.List.{List}
use Prim.Native.Nat.{ℕ}
use denote.Ref.{Bor}
use Rattle.std.specs.Prelude.{Option}
use Rattle.rules.specs.Refusals.{number_kept}
use Rattle.rules.specs.declared.Refusal.{Refusal}
use Rattle.rules.proofs.Refusals.{kept_alike}
use Rattle.browsing.specs.Lent.{PartAt}
use Rattle.browsing.proofs.Determined.{part_determined}
use Rattle.reader.specs.declared.Reader.{Reader}

-- `new` and `next` say all fields: the slice itself, the place and the refusal.
pub reader_determined : {bytes : Bor (List ℕ)} {place : ℕ} {refusal : Option Refusal} {one other : Reader}
    → (one.bytes ≡ bytes) × (one.place ≡ place) × (one.refusal ≡ refusal) → (other.bytes ≡ bytes) × (other.place ≡ place) × (other.refusal ≡ refusal)
    → one ≡ other
reader_determined a b = λ i. record { bytes = (a.0 ∙ sym b.0) i; place = (a.1 ∙ sym b.1) i; refusal = (a.2 ∙ sym b.2) i }

-- `browse` says the part of the history that the reader holds, and the refusal by its number.
pub browse_determined : {history : Bor (List ℕ)} {at n place number : ℕ} {one other : Reader}
    → PartAt history at n one.bytes × (one.place ≡ place) × (number_kept one.refusal ≡ number) → PartAt history at n other.bytes × (other.place ≡ place) × (number_kept other.refusal ≡ number)
    → (one.bytes.now ≡ other.bytes.now) × (one.bytes.ref_ptr ≡ other.bytes.ref_ptr) × (one.place ≡ other.place) × (one.refusal ≡ other.refusal)
browse_determined a b = let p = part_determined a.0 b.0 in (p.0, p.1, a.1 ∙ sym b.1, kept_alike _ _ (a.2 ∙ sym b.2))
