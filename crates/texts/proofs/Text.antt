-- Digits, times and texts: the tests that the code makes are those of the layout.
use mathlib.Core.Path.{◌≡◌, refl, ap, ◌∙◌}
use mathlib.Core.Bool.{Bool, true, ◌&&◌}
use mathlib.Core.List.{List, [], ◌∷◌, ◌++◌}
use Prim.Native.Nat.{ℕ}
use borrow.Author.Tests.{eq-eqb}
use lib.Dec.{eqb, leb}
use lib.ListN.{length, get_or}
use Rattle.std.specs.List.{list_all}
use Rattle.std.proofs.Math.Bool.{and_assoc}
use Rattle.rules.specs.Bytes.{part}
use Rattle.rules.specs.Layout.{within, digit, digits, two_digits, time_right, text_right}

pub digits-all : (xs : List ℕ) → list_all digit xs ≡ digits xs
digits-all [] = refl
digits-all (x ∷ xs) = ap (λ b. digit x && b) (digits-all xs)

-- ---- Times

-- What the code finds of sixteen bytes, part after part, is what the layout asks of a time.
pub time_parts : (xs : List ℕ) {first last inYear inMonth : Bool} {month day hour minute second : ℕ} → length xs ≡ 16
    → first ≡ digits (part xs 0 8) → last ≡ digits (part xs 9 6)
    → month ≡ two_digits xs 4 → inYear ≡ within 1 12 month → day ≡ two_digits xs 6 → inMonth ≡ within 1 31 day
    → hour ≡ two_digits xs 9 → minute ≡ two_digits xs 11 → second ≡ two_digits xs 13
    → first && eqb (get_or xs 8 0) 0x54 && last && eqb (get_or xs 15 0) 0x5A && inYear && inMonth && leb hour 23 && leb minute 59 && leb second 59 ≡ time_right xs
unfolding time_right
time_parts xs h d e mo y da m ho mi se = rw (eq-eqb (length xs) 16 h, d, e, y, mo, m, da, ho, mi, se)

-- ---- Texts

-- Printable bytes, and a zero behind them.
pub text-all : (xs : List ℕ) (x : ℕ) → list_all (within 0x20 0x7E) xs && eqb x 0 ≡ text_right (xs ++ (x ∷ []))
unfolding text_right
text-all [] x = refl
text-all (y ∷ []) x = and_assoc (within 0x20 0x7E y) true (eqb x 0)
text-all (y ∷ z ∷ zs) x = and_assoc (within 0x20 0x7E y) (list_all (within 0x20 0x7E) (z ∷ zs)) (eqb x 0) ∙ ap (λ b. within 0x20 0x7E y && b) (text-all (z ∷ zs) x)
