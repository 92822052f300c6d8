-- The promise of `list` leaves no choice: two outcomes that it allows are equal.
use mathlib.Core.Path.{◌≡◌, sym, ap, ◌∙◌}
use mathlib.Core.List.{List}
use Prim.Native.Nat.{ℕ}
use Rattle.rules.specs.Listing.{list, Listed}
use Rattle.listing.specs.Written.{listed}

pub determined : (most : ℕ) (history out : List ℕ) {answer answer' : ℕ} {bytes bytes' : List ℕ} → listed answer bytes ≡ list most history out
    → listed answer' bytes' ≡ list most history out → (answer ≡ answer') × (bytes ≡ bytes')
determined most history out e f = (ap (λ (l : Listed). l.length) (e ∙ sym f), ap (λ (l : Listed). l.bytes) (e ∙ sym f))
