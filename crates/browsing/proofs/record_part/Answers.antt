-- What was placed lies in the history.
use Rattle.browsing.proofs.Place.{place-room}
use Rattle.browsing.proofs.record_part.Goals as goal

pub part_of-requires : goal.part_of-requires
part_of-requires c = place-room _ _ c.in-Ok.ensures
