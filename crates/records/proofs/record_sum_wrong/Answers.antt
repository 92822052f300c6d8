-- Both checksums stand where the layout has them.
use native.Mathlib.Omega.{arith}
use Rattle.rules.proofs.Places.{entry-least, entries_product}
use Rattle.records.proofs.Fields.{sum_wrong_parts}
use Rattle.records.proofs.record_sum_wrong.Goals as goal

pub sums_stand-requires : goal.sums_stand-requires
sums_stand-requires c =
    let a = c.args in
    let w = c.entry_width-width.ensures in
    let f = c.front_width.ensures in
    let least = entry-least a.form in
    let product = entries_product a.form a.r.entries in
    (rw w (omega (arith, f, product, c.requires.1)), c.requires.2, omega (arith, w), omega (arith, w, c.entry_sum_at.ensures))

pub returns : goal.returns
returns c =
    let a = c.args in
    sum_wrong_parts a.history.now a.form a.r _ (omega arith) (rw c.front_width.ensures) c.entry_width-width.ensures c.entry_sum_at.ensures c.sum_stands.ensures c.sums_stand.ensures
