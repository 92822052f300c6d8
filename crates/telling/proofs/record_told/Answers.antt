-- Each field is the record's, and its texts stand where the rules say.
use native.Mathlib.Omega.{arith}
use Rattle.rules.proofs.Places.{count_most, entries-most}
use Rattle.telling.proofs.Told.{fields_told}
use Rattle.telling.proofs.record_told.Goals as goal

pub overflow_add-result : goal.overflow_add-result
overflow_add-result c =
    let f = c.args.form in
    omega (arith, c.name_at-name.ensures, entries-most f c.args.r.entries c.requires.3, count_most f, c.requires.1, c.requires.2, c.requires.4)

pub returns : goal.returns
returns c =
    let a = c.args in
    fields_told a.history.now a.form a.k a.r c.requires.0 c.user_of.ensures c.time_at.ensures.2 c.name_at-name.ensures
