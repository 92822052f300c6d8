-- The record that the rows have passed is the one told.
use mathlib.Core.Path.{refl}
use borrow.Author.Rules.{rules}
use Rattle.rules.proofs.Refusals.{refused}
use Rattle.telling.proofs.Told.{record_refused, record_tells, original_tells, record-room}
use Rattle.telling.proofs.record_of.Goals as goal

pub returns-in-Err : goal.returns-in-Err
returns-in-Err c =
    record_refused _ _ c.in-Err.ensures.number (refused _) (search rules)

pub returns-then-k-eq0 : goal.returns-then-k-eq0
returns-then-k-eq0 c =
    let judged = c.in-Ok.ensures in
    original_tells _ _ judged.number refl judged.standing c.asked-k.ensures c.if-k-eq0.true (search rules)

pub record_told-requires : goal.record_told-requires
record_told-requires c =
    let judged = c.in-Ok.ensures in
    record-room _ _ judged.number refl judged.standing c.asked-k.ensures c.if-k-eq0.false

pub returns : goal.returns
returns c =
    let judged = c.in-Ok.ensures in
    record_tells _ _ judged.number refl judged.standing c.asked-k.ensures c.record_told.ensures
