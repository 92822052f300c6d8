-- Front and entries are small.
use native.Mathlib.Omega.{arith}
use Rattle.rules.proofs.Places.{count_most, entries-most}
use Rattle.records.proofs.name_at.Goals as goal

pub overflow_add-result : goal.overflow_add-result
overflow_add-result c = omega (arith, c.front_width-front.ensures, count_most c.args.form, c.requires.0)

pub entries_width-requires : goal.entries_width-requires
entries_width-requires c = omega (arith, entries-most c.args.form c.args.r.entries c.requires.1)

pub overflow_add-result-2 : goal.overflow_add-result-2
overflow_add-result-2 c =
    let a = c.args in
    omega (arith, c.front_width-front.ensures, c.entries_width.ensures, count_most a.form, entries-most a.form a.r.entries c.requires.1, c.requires.0)
