-- A checksum fits in the four bytes that the layout gives it.
use mathlib.Core.List.{List}
use Prim.Native.Nat.{ℕ, zero, suc, ◌^◌, ◌<◌}
use native.Mathlib.Omega.{arith}
use Rattle.rules.specs.Checksum.{words, total, running_totals, folded, checksum}

pub folded_less : (n : ℕ) → folded n < 65536
folded_less zero = omega arith
folded_less (suc n) = omega arith

pub checksum_less : (bytes : List ℕ) → checksum bytes < 2 ^ 32
unfolding checksum
checksum_less bytes = omega (arith, folded_less (total (words bytes)), folded_less (total (running_totals 0 (words bytes))))
