-- Each test is one of the row.
use native.Mathlib.Omega.{arith}
use Rattle.rules.proofs.Places.{count-least}
use Rattle.records.proofs.Fields.{fields_parts}
use Rattle.records.proofs.record_fields.Goals as goal

pub slice_bounds-time_right-end : goal.slice_bounds-time_right-end
slice_bounds-time_right-end c = omega (arith, count-least c.args.history.setting.form, c.requires)

pub returns : goal.returns
returns c =
    let a = c.args in
    fields_parts a.history.bytes.now a.history.setting a.k a.r c.starts.ensures c.time_right.ensures
