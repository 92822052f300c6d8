-- A page size that is allowed is a power of two, as a test of each number up to 4,096 shows; less one, it masks what a division leaves.
use mathlib.Core.Path.{◌≡◌, refl}
use mathlib.Core.Bool.{Bool, true, false, not, cond, ◌&&◌, ◌||◌}
use Prim.Native.Nat.{ℕ, zero, suc, ◌-◌, ◌/◌, ◌%◌, ◌^◌, ◌<◌}
use native.Mathlib.Omega.{arith}
use lib.Bits.{bit_and, and_mask}
use lib.Dec.{leb, ltb, eqb}
use borrow.Author.Tests.{ltb-true, ltb-false, eqb-true}
use Rattle.rules.specs.Layout.{page_allowed}
use Rattle.rules.proofs.Rows.{both}
use Rattle.rules.proofs.Headers.{page-most}

-- How often a number can be halved before it is zero, less one; at most so often.
halvings : ℕ → ℕ → ℕ
halvings zero n = 0
halvings (suc most) n = cond (eqb (n / 2) 0) 0 (suc (halvings most (n / 2)))

-- Whether a number, if it divides 4,096, is a power of two; and whether each number below another is so.
power : ℕ → Bool
power p = not (eqb (4096 % p) 0) || eqb p (2 ^ halvings 12 p)

every : ℕ → Bool
every zero = true
every (suc n) = power n && every n

every_power : (n : ℕ) → every n ≡ true → (p : ℕ) → p < n → power p ≡ true
unfolding every
every_power zero e p h = absurd (omega arith)
every_power (suc n) e p h = go (ltb p n) refl (λ l. every_power n (both (power n) (every n) e).1 p l)
  where
    go : (b : Bool) → ltb p n ≡ b → (p < n → power p ≡ true) → power p ≡ true
    go true l below = below (ltb-true p n l)
    go false l below = let s : p ≡ n = omega (arith, ltb-false p n l) in rw s (both (power n) (every n) e).0

tested : every 4097 ≡ true
unfolding every power halvings
tested = refl

module _ (p : ℕ) (allowed : page_allowed p ≡ true) where
  divides : eqb (4096 % p) 0 ≡ true
  unfolding page_allowed
  divides = (both (leb 16 p) (eqb (4096 % p) 0) allowed).1

  page_power : p ≡ 2 ^ halvings 12 p
  unfolding power
  page_power =
      let h = page-most p allowed in
      eqb-true p (2 ^ halvings 12 p) (rw divides at (every_power 4097 tested p (omega arith)))

  pub page_mask : (x : ℕ) → bit_and x (p - 1) ≡ x % p
  page_mask x = rw page_power (and_mask x (halvings 12 p))
