-- Where there are entries, they stand behind the front.
use native.Mathlib.Omega.{arith}
use Rattle.rules.proofs.Places.{count_most}
use Rattle.records.proofs.Fields.{index-none, index_some}
use Rattle.records.proofs.Revision.index.Goals as goal

pub returns-then-r-eq0 : goal.returns-then-r-eq0
returns-then-r-eq0 c =
    let self = c.args.self in
    index-none self.setting self.record c.if-r-eq0.true

pub overflow_add-result : goal.overflow_add-result
overflow_add-result c = omega (arith, c.front_width.ensures, count_most c.args.self.setting.form, c.requires.0)

pub returns : goal.returns
returns c =
    let self = c.args.self in
    index_some self.setting self.record (rw c.front_width.ensures) c.if-r-eq0.false
