-- The masks of the flags, as arithmetic.
use mathlib.Core.Path.{◌≡◌, refl}
use mathlib.Core.Bool.{Bool, true, false, cond}
use Prim.Native.Nat.{ℕ, ◌+◌, ◌*◌, ◌/◌, ◌%◌, ◌<◌}
use native.Mathlib.Nat.{mod-eq_of_lt}
use native.Mathlib.Omega.{arith}
use mir.Val.{bool_byte}
use lib.Bits.{bit_and, bit_or, and_mask, and_high}
use lib.Dec.{eqb, ltb}
use borrow.Author.Tests.{eq-eqb, ne_eqb, eqb-true, eqb-false, ltb-true, ltb-false}

pub lock_mask : (f : ℕ) → eqb (bit_and f 1) 1 ≡ eqb (f % 2) 1
lock_mask f = rw (and_mask f 1)

pub branching_mask : (f : ℕ) → eqb (bit_and f 2) 2 ≡ eqb (f / 2 % 2) 1
branching_mask f = rw (and_high f 1 1) (go (eqb (f / 2 % 2) 1) refl)
  where
    go : (b : Bool) → eqb (f / 2 % 2) 1 ≡ b → eqb (f / 2 % 2 * 2) 2 ≡ b
    go true e = eq-eqb (f / 2 % 2 * 2) 2 (omega (arith, eqb-true (f / 2 % 2) 1 e))
    go false e = ne_eqb (f / 2 % 2 * 2) 2 (λ q. eqb-false (f / 2 % 2) 1 e (omega arith))

pub rest_mask : (f : ℕ) → f < 256 → eqb (bit_and f 252) 0 ≡ ltb f 4
rest_mask f h = rw (and_high f 6 2) (go (ltb f 4) refl)
  where
    small : f / 4 % 64 ≡ f / 4
    small = mod-eq_of_lt (omega arith)

    go : (b : Bool) → ltb f 4 ≡ b → eqb (f / 4 % 64 * 4) 0 ≡ b
    go true e = rw small (eq-eqb (f / 4 * 4) 0 (omega (arith, ltb-true f 4 e)))
    go false e = rw small (ne_eqb (f / 4 * 4) 0 (omega (arith, ltb-false f 4 e)))

-- The flags joined are the sum of their bits.
pub flags_joined : (lock branching : Bool)
    → (bit_or (bool_byte lock * 1) (bool_byte branching * 2) ≡ cond lock 1 0 + cond branching 2 0) × (bit_or (bool_byte lock * 1) (bool_byte branching * 2) < 4)
flags_joined true true = (refl, omega arith)
flags_joined true false = (refl, omega arith)
flags_joined false true = (refl, omega arith)
flags_joined false false = (refl, omega arith)
