-- The header says where the whole history lies, and what stands there says the rest.
use mathlib.Core.Path.{refl, sym, ◌∙◌}
use native.Mathlib.Omega.{arith}
use Rattle.rules.proofs.Places.{end-behind}
use Rattle.rules.proofs.Rows.{last-holds, last_past}
use Rattle.rules.proofs.Headers.{header_facts}
use Rattle.whole.proofs.Whole.{front_lies, counted-setting, whole_of, counted_lies}
use Rattle.whole.proofs.Sound.{front-paged, sound}
use Rattle.whole.proofs.judge_whole.Goals as goal

pub setting_with-front-requires : goal.setting_with-front-requires
setting_with-front-requires c = (header_facts _ c.requires).front

pub lies-requires : goal.lies-requires
lies-requires c =
    (front-paged _ 0 c.setting_with-front.ensures c.requires, (header_facts _ c.requires).short)

pub returns-then-not-lies-clause-number : goal.returns-then-not-lies-clause-number
returns-then-not-lies-clause-number c = last-holds 5 (front_lies _ c.setting_with-front.ensures (c.lies.ensures.1 c.if-not-lies.true)) refl

pub overflow_add-front : goal.overflow_add-front
overflow_add-front c =
    let w = c.lies.ensures.0 c.if-not-lies.false in
    let s = c.setting_with-front.result in
    omega (arith, w.ends, w.sized, end-behind s.form s.address s.size, (header_facts _ c.requires).short)

pub get-count-requires-clause-inside : goal.get-count-requires-clause-inside
get-count-requires-clause-inside c =
    let w = c.lies.ensures.0 c.if-not-lies.false in
    let s = c.setting_with-front.result in
    omega (arith, w.ends, w.sized, end-behind s.form s.address s.size)

pub setting_with-setting-requires : goal.setting_with-setting-requires
setting_with-setting-requires c = (header_facts _ c.requires).front

pub whole_wrong-requires : goal.whole_wrong-requires
whole_wrong-requires c =
    let w = c.lies.ensures.0 c.if-not-lies.false in
    (counted_lies _ _ _ c.setting_with-front.ensures c.setting_with-setting.ensures w, (header_facts _ c.requires).short)

pub returns-then-whole_wrong-clause-number : goal.returns-then-whole_wrong-clause-number
returns-then-whole_wrong-clause-number c =
    let t = counted-setting _ c.setting_with-front.ensures c.get-count.ensures.0 c.setting_with-setting.ensures in
    last-holds 5 (whole_of _ t c.whole_wrong.ensures) c.if-whole_wrong.true

pub invariant_of-result : goal.invariant_of-result
invariant_of-result c =
    let t = counted-setting _ c.setting_with-front.ensures c.get-count.ensures.0 c.setting_with-setting.ensures in
    record { sound = sound _ c.requires t (sym c.whole_wrong.ensures ∙ c.if-whole_wrong.false) }

pub returns : goal.returns
returns c =
    let wrong = c.whole_wrong.ensures in
    let t = counted-setting _ c.setting_with-front.ensures c.get-count.ensures.0 c.setting_with-setting.ensures in
    record { number = last_past 5 (whole_of _ t wrong) c.if-whole_wrong.false; lent = refl }
