-- A number of at most eight bytes, read and written by way of all eight.
use mathlib.Core.Path.{◌≡◌, refl, ap, ◌∙◌}
use mathlib.Core.List.{List, [], ◌∷◌, ◌++◌}
use Prim.Native.Nat.{ℕ, zero, suc, ◌+◌, ◌-◌, ◌/◌, ◌%◌, ◌^◌, ◌≤◌, ◌<◌}
use native.Mathlib.Nat.{div-one, div-div-eq-div-mul, pow-suc, pow-succ'}
use native.Mathlib.Omega.{arith}
use lib.ListN.{length, take, drop, get_or, replicate, length-append, length-replicate}
use lib.Seq.{length-take-le, take-suc, take_all}
use Rattle.std.specs.Int.{w64, byte_at, byte_worth, bytes_low_first, sum_through, from_le_bytes}
use Rattle.std.proofs.lemmas.List.{drop-replicate}
use Rattle.rules.specs.Bytes.{part, value_of, number_at, number_bytes}
use Rattle.rules.proofs.Bytes.{value-append, slice-part, length_part, byte-part}

-- The library adds up what each byte is worth.
sum_value : (xs : List ℕ) (k : ℕ) → k < length xs → sum_through (λ i. byte_worth i (get_or xs i 0)) k ≡ value_of (take (suc k) xs)
unfolding value_of
sum_value xs zero h = rw (take-suc xs 0 0 h) (omega arith)
sum_value xs (suc k) h =
    rw (sum_value xs k (omega arith), take-suc xs (suc k) 0 h, value-append, length-take-le (suc k) xs (omega arith)) (omega arith)

-- Zeros behind change nothing.
value-zeros : (m : ℕ) → value_of (replicate m 0) ≡ 0
unfolding value_of
value-zeros zero = refl
value-zeros (suc m) = rw (value-zeros m) refl

value-padded : (xs : List ℕ) (m : ℕ) → value_of (xs ++ replicate m 0) ≡ value_of xs
value-padded xs m = rw (value-append, value-zeros m) (omega arith)

-- N bytes say less than 256 to the power of N.
value_small : (xs : List ℕ) → ((k : ℕ) → k < length xs → get_or xs k 0 < 256) → value_of xs < 256 ^ length xs
unfolding value_of
value_small [] small = omega arith
value_small (x ∷ xs) small =
    let h : x < 256 = small 0 (omega arith) in
    let rest : value_of xs < 256 ^ length xs = value_small xs (λ k l. small (suc k) (omega arith)) in
    rw pow-succ' (omega arith)

pub number_small : (n : ℕ) (xs : List ℕ) (at : ℕ) → ((k : ℕ) → get_or xs k 0 < 256) → at + n ≤ length xs → number_at n xs at < 256 ^ n
number_small n xs at small h =
    let long = length_part xs at n h in
    rw long at (value_small (part xs at n) (λ k l. rw (byte-part xs at n k (rw long at l)) (small (at + k))))

pub number_read : (xs front : List ℕ) (at n : ℕ) → n ≤ 8 → at + n ≤ length xs → front ≡ take (at + n - at) (drop at xs)
    → from_le_bytes w64 (front ++ drop n (replicate 8 0)) ≡ number_at n xs at
number_read xs front at n h k e =
    let all = part xs at n ++ replicate (8 - n) 0 in
    let long : length all ≡ 8 = simp (length-append, length-replicate) (omega (arith, length_part xs at n k)) in
    rw (e, slice-part xs at n, drop-replicate {X = ℕ} n 8 0)
    (sum_value all 7 (omega arith) ∙ ap value_of (take_all 8 all (omega arith)) ∙ value-padded (part xs at n) (8 - n))

byte_is : (i v : ℕ) → byte_at i v ≡ v / 256 ^ i % 256
byte_is zero v = rw div-one
byte_is (suc i) v = refl

pub number_written : (i k n v : ℕ) → n ≤ k → take n (bytes_low_first i k v) ≡ number_bytes n (v / 256 ^ i)
unfolding number_bytes
number_written i k zero v h = refl
number_written i zero (suc n) v h = absurd (omega arith)
number_written i (suc k) (suc n) v h =
    rw (number_written (suc i) k n v (omega arith), byte_is i v, div-div-eq-div-mul v (256 ^ i) 256, pow-suc 256 i)
