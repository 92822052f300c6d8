-- What the code has computed on its way through the bytes. It reads the words low byte first. Such a word, times 256, leaves the
-- remainder of the right word on division by 65,535, so one step at the end puts the bytes in order.
use Rattle.std.specs.Prelude.{◌≡◌, List, [], ◌∷◌, ℕ, ◌+◌, ◌*◌}
use Rattle.std.specs.Simd.Lanes.{sum_l, products}
use Rattle.rules.specs.Checksum.{total, running_totals}

-- The words, each read low byte first; an odd last byte is a low half.
abbrev pub low_words : List ℕ → List ℕ
low_words [] = []
low_words (x ∷ []) = x ∷ []
low_words (x ∷ y ∷ rest) = (x + y * 256) ∷ low_words rest

-- The lanes' numbers, and the total of eight lanes with each as many times as its number says.
abbrev pub places : List ℕ
places = 0 ∷ 1 ∷ 2 ∷ 3 ∷ 4 ∷ 5 ∷ 6 ∷ 7 ∷ []

abbrev pub weighted : List ℕ → ℕ
weighted lanes = sum_l (products lanes places)

-- From the totals first and second, the bytes lead to the totals a and b.
pub record After (bytes : List ℕ) (first second a b : ℕ) : Type 0 where
  pub first_same : a ≡ first + total (low_words bytes)
  pub second_same : b ≡ second + total (running_totals first (low_words bytes))
