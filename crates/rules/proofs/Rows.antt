-- Rows in their order. In each law b is what the rules ask, r what the code found of it, and `rest` the rows behind.
use mathlib.Core.Path.{◌≡◌, refl, sym, ◌∙◌}
use mathlib.Core.Bool.{Bool, true, false, ◌&&◌, false≢true}
use Prim.Native.Nat.{ℕ, zero, suc, ◌<◌}
use native.Mathlib.Omega.{arith}
use Rattle.rules.specs.Calls.{row, ◌then◌, accepted}

-- ---- One row

-- The row holds, and its number is the answer.
pub row-holds : (n rest : ℕ) {r b : Bool} → 0 < n → r ≡ b → r ≡ true → n ≡ row n b then rest
unfolding row ◌then◌
row-holds zero rest h e t = absurd (omega arith)
row-holds (suc n) rest h e t = rw (sym e ∙ t)

-- It does not, and the answer is that of the rows behind.
pub row_past : (n rest : ℕ) {k : ℕ} {r b : Bool} → r ≡ b → r ≡ false → k ≡ rest → k ≡ row n b then rest
unfolding row ◌then◌
row_past n rest e t h = rw (sym e ∙ t) h

-- The same of the last row.
pub last-holds : (n : ℕ) {r b : Bool} → r ≡ b → r ≡ true → n ≡ row n b
unfolding row
last-holds n e t = rw (sym e ∙ t)

pub last_past : (n : ℕ) {r b : Bool} → r ≡ b → r ≡ false → 0 ≡ row n b
unfolding row
last_past n e t = rw (sym e ∙ t)

-- ---- Several rows, of which the code has the number

pub rows_hold : (rest k : ℕ) {a : ℕ} → k ≡ a → (k ≡ 0 → ⊥) → k ≡ a then rest
unfolding ◌then◌
rows_hold rest zero e h = absurd (h refl)
rows_hold rest (suc k) e h = rw (← e)

pub rows_past : (rest : ℕ) {k a j : ℕ} → k ≡ a → k ≡ 0 → j ≡ rest → j ≡ a then rest
unfolding ◌then◌
rows_past rest e z h = rw (sym e ∙ z) h

-- ---- What an answer of 0 tells: no row holds

pub row-clear : (n : ℕ) (b : Bool) → 0 < n → row n b ≡ 0 → b ≡ false
unfolding row
row-clear n true h e = absurd (omega arith)
row-clear n false h e = refl

pub then-clear : (a b : ℕ) → (a then b) ≡ 0 → (a ≡ 0) × (b ≡ 0)
unfolding ◌then◌
then-clear zero b e = (refl, e)
then-clear (suc a) b e = absurd (omega arith)

-- ---- Tests joined

-- A test that cannot fail holds.
pub must_hold : (b : Bool) → (b ≡ false → ⊥) → true ≡ b
must_hold true h = refl
must_hold false h = absurd (h refl)

pub both : (a b : Bool) → a && b ≡ true → (a ≡ true) × (b ≡ true)
both true b e = (refl, e)
both false b e = absurd (false≢true e)

-- ---- What a call leaves

-- A refusal leaves the old; an acceptance gives the new.
pub left_alone {ℓ} : {A : Type ℓ} (n : ℕ) (new old : A) → (n ≡ 0 → ⊥) → old ≡ accepted n new old
left_alone zero new old h = absurd (h refl)
left_alone (suc n) new old h = refl

-- ---- Promises

-- Stands for itself: a promise that is one equation with the rules leaves no choice. Two outcomes that it allows are equal.
pub determined {ℓ} : {A : Type ℓ} {rule one other : A} → one ≡ rule → other ≡ rule → one ≡ other
determined a b = a ∙ sym b

-- ---- Rows taken together

pub then_assoc : (a b c : ℕ) → (a then b) then c ≡ a then (b then c)
unfolding ◌then◌
then_assoc zero b c = refl
then_assoc (suc a) b c = refl
