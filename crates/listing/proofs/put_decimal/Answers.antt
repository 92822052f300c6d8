-- The digits so far stand behind those that are left, and the last turn lays the first.
use mathlib.Core.Path.{ap}
use Prim.Native.Nat.{◌+◌}
use native.Mathlib.Omega.{arith}
use Rattle.listing.proofs.Digits.{laid-start, laid-above, laid-length, laid_turn, laid_end}
use borrow.Author.Rules.{rules}
use Rattle.listing.proofs.put_decimal.Goals as goal

pub loop-left-init : goal.loop-left-init
loop-left-init c = laid-start _ _ _ _ (search rules) (search rules) (ap (◌+◌ _) c.decimal_length.ensures.0)

pub overflow_sub-place : goal.overflow_sub-place
overflow_sub-place c = omega (arith, laid-above c.loop-left.invariant)

pub bounds-out-place : goal.bounds-out-place
bounds-out-place c = omega (arith, laid-above c.loop-left.invariant, laid-length c.loop-left.invariant)

pub loop-left-preserved : goal.loop-left-preserved
loop-left-preserved c = laid_turn c.loop-left.invariant c.loop-left-test.true

pub overflow_sub-place-2 : goal.overflow_sub-place-2
overflow_sub-place-2 c = omega (arith, laid-above c.loop-left.invariant)

pub bounds-out-place-2 : goal.bounds-out-place-2
bounds-out-place-2 c = omega (arith, laid-above c.loop-left.invariant, laid-length c.loop-left.invariant)

pub returns : goal.returns
returns c = record { bytes = laid_end c.loop-left.invariant (search rules); next = ap (◌+◌ _) c.decimal_length.ensures.0 }
