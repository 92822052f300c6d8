-- The widths of so few entries are small.
use Prim.Native.Nat.{◌+◌, ◌*◌, ◌≤◌}
use native.Mathlib.Omega.{arith}
use Rattle.rules.specs.Layout.{limit}
use Rattle.rules.proofs.Places.{entries-most, count_most}
use Rattle.layout.proofs.record_size.Goals as goal
use Rattle.layout.proofs.record_size.Goals.{After-bare_width}

sizes : (c : After-bare_width) → c.bare_width.result + c.entries_width-width.result ≤ 2 * limit
sizes c =
    let a = c.args in
    omega (arith, c.bare_width.ensures, c.entries_width-width.ensures, entries-most a.form a.entries c.requires.0, count_most a.form)

pub entries_width-width-requires : goal.entries_width-width-requires
entries_width-width-requires c = omega (arith, entries-most c.args.form c.args.entries c.requires.0)

pub overflow_add-result : goal.overflow_add-result
overflow_add-result c = omega (arith, sizes (goal.at.overflow_add-result c).After-bare_width)

pub overflow_add-result-2 : goal.overflow_add-result-2
overflow_add-result-2 c = omega (arith, sizes (goal.at.overflow_add-result-2 c).After-bare_width)

pub overflow_add-result-3 : goal.overflow_add-result-3
overflow_add-result-3 c = omega (arith, sizes (goal.at.overflow_add-result-3 c).After-bare_width)
