-- A difference is compared where the sum could wrap.
use native.Mathlib.Omega.{arith}
use Rattle.std.proofs.lemmas.Bool.Decides.{nat_tests}
use Rattle.rules.specs.Rows.{read_outside}
use Rattle.reading.proofs.read_outside.Goals as goal

pub returns-then-size-at : goal.returns-then-size-at
unfolding read_outside
returns-then-size-at c = grind (arith, nat_tests)

pub returns-else-size-at : goal.returns-else-size-at
unfolding read_outside
returns-else-size-at c = grind (arith, nat_tests)
