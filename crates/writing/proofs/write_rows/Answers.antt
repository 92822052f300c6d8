-- One row after the other, in the order of the call.
use mathlib.Core.Path.{refl, sym, ◌∙◌}
use Prim.Native.Nat.{ℕ}
use native.Mathlib.Omega.{arith}
use lib.ListN.{length-take}
use Rattle.rules.proofs.Refusals.{refused, number-handed_on}
use Rattle.reading.proofs.Seen.{view_seen}
use Rattle.writing.proofs.Steps.{near_enough, write_outside_lem, write_far, write-room, write_damaged, write_fine, writable}
use Rattle.writing.proofs.write_rows.Goals as goal

pub returns-then-st-at-clause-number : goal.returns-then-st-at-clause-number
returns-then-st-at-clause-number c =
    let a = c.args in
    write_outside_lem a.st.now _ a.parent.setting a.parent.record a.at a.n c.if-st-at.true

pub returns-then-write_too_far-clause-number : goal.returns-then-write_too_far-clause-number
returns-then-write_too_far-clause-number c =
    let a = c.args in
    write_far a.st.now _ a.parent.setting a.parent.record a.at a.n c.if-st-at.false c.write_too_far.ensures c.if-write_too_far.true

pub room_rows-requires : goal.room_rows-requires
room_rows-requires c =
    (c.requires, near_enough _ _ (sym c.write_too_far.ensures ∙ c.if-write_too_far.false))

pub returns-in_err-room_rows-clause-number : goal.returns-in_err-room_rows-clause-number
returns-in_err-room_rows-clause-number c =
    let a = c.args in
    number-handed_on _ _ c.from_residual.ensures.1 ∙ write-room a.st.now _ a.parent.setting a.parent.record a.at a.n c.if-st-at.false c.write_too_far.ensures c.if-write_too_far.false c.in_err-room_rows.ensures (refused _)

pub range_wrong-requires : goal.range_wrong-requires
range_wrong-requires c =
    let w = c.requires in
    (view_seen w.parent c.index.ensures w.room (omega (arith, length-take {A = ℕ})), near_enough _ _ (sym c.write_too_far.ensures ∙ c.if-write_too_far.false))

pub returns-then-range_wrong-clause-number : goal.returns-then-range_wrong-clause-number
returns-then-range_wrong-clause-number c =
    let a = c.args in
    write_damaged a.st.now _ a.parent.setting a.parent.record a.at a.n c.if-st-at.false c.write_too_far.ensures c.if-write_too_far.false c.in_ok-room_rows.ensures refl c.requires c.index.ensures c.range_wrong.ensures c.if-range_wrong.true

pub returns : goal.returns
returns c =
    let a = c.args in
    let room = c.in_ok-room_rows.ensures in
    record { number = write_fine a.st.now _ a.parent.setting a.parent.record a.at a.n c.if-st-at.false c.write_too_far.ensures c.if-write_too_far.false room refl c.requires c.index.ensures c.range_wrong.ensures c.if-range_wrong.false; fits = writable a.st.now _ a.parent.setting a.parent.record a.at a.n c.if-st-at.false c.write_too_far.ensures c.if-write_too_far.false room refl c.requires }
