-- Judged once; then the page by the index and the size of the record.
use mathlib.Core.Path.{refl}
use native.Mathlib.Omega.{arith}
use Rattle.rules.proofs.Refusals.{refused, handed_on}
use Rattle.reading.proofs.Seen.{view_seen}
use Rattle.lookup.proofs.Place.{look_refused, look-found}
use Rattle.lookup.proofs.look_up_place.Goals as goal

pub returns-in_err-sought-clause-value : goal.returns-in_err-sought-clause-value
returns-in_err-sought-clause-value c =
    let a = c.args in
    rw (handed_on _ _ c.from_residual.ensures.1) (look_refused _ _ a.revision a.address c.in_err-sought.ensures.number (refused _) refl)

pub found_in-requires : goal.found_in-requires
found_in-requires c =
    let w = c.in_ok-sought.ensures.standing in
    (view_seen w c.index.ensures {n = 0} (omega arith) (omega arith), w.right.small)

pub returns-clause-value : goal.returns-clause-value
returns-clause-value c =
    let a = c.args in
    let judged = c.in_ok-sought.ensures in
    look-found _ _ a.revision a.address judged.standing c.index.ensures judged.number refl c.found_in.ensures.value
