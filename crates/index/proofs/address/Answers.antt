-- The place lies within the entries, so the entry there does.
use native.Mathlib.Omega.{arith}
use Rattle.rules.proofs.Places.{entries-within}
use Rattle.index.proofs.address.Goals as goal

pub entries_width-requires : goal.entries_width-requires
entries_width-requires c = let x = c.args.x in omega (arith, entries-within x.form c.args.place x.entries c.requires.1)

pub overflow_add-result : goal.overflow_add-result
overflow_add-result c = let x = c.args.x in omega (arith, c.entries_width.ensures, entries-within x.form c.args.place x.entries c.requires.1)

pub returns-clause-within : goal.returns-clause-within
returns-clause-within c = let x = c.args.x in omega (arith, c.entries_width.ensures, entries-within x.form c.args.place x.entries c.requires.1)
