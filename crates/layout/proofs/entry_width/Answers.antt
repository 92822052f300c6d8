-- The offset is small.
use native.Mathlib.Omega.{arith}
use Rattle.rules.proofs.Places.{entry-most}
use Rattle.layout.proofs.entry_width.Goals as goal

pub overflow_add-result : goal.overflow_add-result
overflow_add-result c = omega (arith, entry-most c.args.form, c.entry_sum_at.ensures)
