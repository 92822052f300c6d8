-- The record that the rows have passed is the one that is lent.
use mathlib.Core.Path.{refl}
use Rattle.rules.proofs.Refusals.{refused, handed_on}
use Rattle.browsing.proofs.Place.{place_refused, place_found}
use Rattle.browsing.proofs.browse_place.Goals as goal

pub returns-in_err-record : goal.returns-in_err-record
returns-in_err-record c = rw (handed_on _ _ c.from_residual.ensures.1) (place_refused _ _ c.in_err-record.ensures.number (refused _))

pub returns : goal.returns
returns c =
    let judged = c.in_ok-record.ensures in
    place_found _ _ judged.number refl judged.standing
