-- One part after the other: where it lies, its fields, its entries, its texts.
use mathlib.Core.Path.{sym, ◌∙◌}
use native.Mathlib.Omega.{arith}
use Rattle.rules.proofs.Places.{end-behind}
use Rattle.rules.proofs.Records.{lies_facts, fields_logical}
use Rattle.records.proofs.Fields.{wrong_lies, wrong_fields, wrong_entries, wrong_texts}
use Rattle.records.proofs.record_wrong.Goals as goal

pub returns-then-not-record_lies : goal.returns-then-not-record_lies
returns-then-not-record_lies c = wrong_lies _ _ _ _ (sym c.record_lies.ensures ∙ c.if-not-record_lies.true)

pub returns-then-not-record_fields : goal.returns-then-not-record_fields
returns-then-not-record_fields c = wrong_fields _ _ _ _ (sym c.record_lies.ensures ∙ c.if-not-record_lies.false) (sym c.record_fields.ensures ∙ c.if-not-record_fields.true)

pub entries_right-requires : goal.entries_right-requires
entries_right-requires c =
    let a = c.args in
    let l = lies_facts _ _ (sym c.record_lies.ensures ∙ c.if-not-record_lies.false) in
    let g = fields_logical _ _ _ _ (sym c.record_fields.ensures ∙ c.if-not-record_fields.false) in
    let w = c.args.history.sound in
    (omega (arith, l.ends, l.sized, w.inside, end-behind a.history.setting.form a.r.address a.r.size), g.1)

pub returns-then-not-entries_right : goal.returns-then-not-entries_right
returns-then-not-entries_right c = wrong_entries _ _ _ _ (sym c.record_lies.ensures ∙ c.if-not-record_lies.false) (sym c.record_fields.ensures ∙ c.if-not-record_fields.false) (sym c.entries_right.ensures ∙ c.if-not-entries_right.true)

pub texts_right-requires : goal.texts_right-requires
texts_right-requires c =
    let a = c.args in
    let l = lies_facts _ _ (sym c.record_lies.ensures ∙ c.if-not-record_lies.false) in
    let w = c.args.history.sound in
    (omega (arith, l.ends, l.sized, w.inside, end-behind a.history.setting.form a.r.address a.r.size), w.short, l.few)

pub returns : goal.returns
returns c = wrong_texts _ _ _ _ (sym c.record_lies.ensures ∙ c.if-not-record_lies.false) (sym c.record_fields.ensures ∙ c.if-not-record_fields.false) (sym c.entries_right.ensures ∙ c.if-not-entries_right.false) c.texts_right.ensures
