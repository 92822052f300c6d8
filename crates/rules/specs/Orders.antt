-- Orders of page addresses.
use Rattle.std.specs.Prelude.{◌≡◌, List, ℕ, ◌<◌, length, get_or}

-- "Logical addresses .. strictly rise": each number is above those ahead of it. A search by halves rests on this.
abbrev pub Rising : List ℕ → Type 0
Rising xs = (i k : ℕ) → i < k → k < length xs → get_or xs i 0 < get_or xs k 0

-- "its pages .. repeated": no number comes twice.
abbrev pub Distinct : List ℕ → Type 0
Distinct xs = (i k : ℕ) → i < k → k < length xs → get_or xs i 0 ≡ get_or xs k 0 → ⊥
