-- Each field is read where the layout has it.
use mathlib.Core.Path.{ap}
use Prim.Native.Nat.{ℕ, ◌+◌}
use native.Mathlib.Omega.{arith}
use Rattle.rules.proofs.Places.{count-least}
use Rattle.records.proofs.Fields.{record_parts}
use Rattle.records.proofs.record_at.Goals as goal

pub get-requires-2-clause-inside : goal.get-requires-2-clause-inside
get-requires-2-clause-inside c = omega (arith, count-least c.args.form, c.requires)

pub get-requires-3-clause-inside : goal.get-requires-3-clause-inside
get-requires-3-clause-inside c = omega (arith, count-least c.args.form, c.requires)

pub get-requires-4-clause-inside : goal.get-requires-4-clause-inside
get-requires-4-clause-inside c = omega (arith, count-least c.args.form, c.requires)

pub returns : goal.returns
returns c =
    let a = c.args in
    let sizes = ap (λ (n : ℕ). a.at + n) c.entry_count_at.ensures in
    record_parts a.form _ a.at a.size sizes c.get.ensures.0 c.get-2.ensures.0 c.get-3.ensures.0 c.get-4.ensures.0 c.get-5.ensures.0 c.get-6.ensures.0 c.get-7.ensures.0
