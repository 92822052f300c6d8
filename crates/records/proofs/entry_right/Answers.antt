-- Each test is one of the row; the last is told without a sum.
use native.Mathlib.Omega.{arith}
use Rattle.records.proofs.Entries.{entry-none, entry_parts}
use Rattle.records.proofs.entry_right.Goals as goal

pub returns-then-r-form : goal.returns-then-r-form
returns-then-r-form c =
    let a = c.args in
    entry-none a.s a.r a.next a.e (omega arith)

pub returns : goal.returns
returns c =
    let a = c.args in
    entry_parts a.s a.r a.next a.e (omega arith) c.multiple.ensures c.empty_end.ensures
