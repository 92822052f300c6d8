-- Less one, a power of two is the mask of what a division by it leaves.
use mathlib.Core.Path.{ap}
use Prim.Native.Nat.{ℕ}
use native.Mathlib.Omega.{arith}
use lib.Dec.{eqb}
use Rattle.rules.proofs.Headers.{page-least}
use Rattle.numbers.proofs.Page.{page_mask}
use Rattle.numbers.proofs.multiple.Goals as goal

pub overflow_sub-result : goal.overflow_sub-result
overflow_sub-result c = omega (arith, page-least c.args.page c.requires)

pub returns : goal.returns
returns c = ap (λ (k : ℕ). eqb k 0) (page_mask c.args.page c.requires c.args.x)
