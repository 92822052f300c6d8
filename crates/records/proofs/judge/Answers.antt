-- A record that cannot lie there is row 7's; else its rows are those of the record that was read.
use mathlib.Core.Path.{refl, ◌∙◌}
use native.Mathlib.Omega.{arith}
use Rattle.rules.proofs.Refusals.{number-handed_on}
use Rattle.records.proofs.Fields.{rows_none, none_is, none-sound, rows_apart, is_record, rows_of, rows-sound, record_address}
use Rattle.records.proofs.judge.Goals as goal

pub returns-then-k-eq0 : goal.returns-then-k-eq0
returns-then-k-eq0 c =
    let none = c.no_record.ensures in
    let zero = c.if-k-eq0.true in
    record { number = rows_none _ _ _ zero; sound = record { sound = c.args.history.sound; known = c.requires; found = none_is _ _ _ zero none; right = none-sound _ _ c.args.history.sound none } }

pub returns-then-apart-clause-number : goal.returns-then-apart-clause-number
returns-then-apart-clause-number c =
    let place = c.location_of-place.ensures in
    rows_apart _ _ _ (omega arith) place.0 place.1 (c.apart.ensures.1 c.if-apart.true)

pub judge_read-requires : goal.judge_read-requires
judge_read-requires c =
    let lies = c.apart.ensures.0 c.if-apart.false in
    omega (arith, lies.0, lies.1, c.args.history.sound.inside, record_address _ _ _ _ c.record_at-record.ensures)

pub returns-in_err-judge_read-clause-number : goal.returns-in_err-judge_read-clause-number
returns-in_err-judge_read-clause-number c =
    let place = c.location_of-place.ensures in
    rows_of _ _ _ (omega arith) place.0 place.1 c.record_at-record.ensures (number-handed_on _ _ c.from_residual.ensures.1 ∙ c.in_err-judge_read.ensures)

pub returns : goal.returns
returns c =
    let place = c.location_of-place.ensures in
    let read = c.record_at-record.ensures in
    let number = c.in_ok-judge_read.ensures in
    record { number = rows_of _ _ _ (omega arith) place.0 place.1 read number; sound = record { sound = c.args.history.sound; known = c.requires; found = is_record _ _ _ (omega arith) place.0 place.1 read; right = rows-sound _ _ _ _ number refl } }
