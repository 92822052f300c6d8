-- The offset is small.
use native.Mathlib.Omega.{arith}
use Rattle.rules.proofs.Places.{count_most}
use Rattle.layout.proofs.bare_width.Goals as goal

pub overflow_add-result : goal.overflow_add-result
overflow_add-result c = omega (arith, count_most c.args.form, c.front_width.ensures)
