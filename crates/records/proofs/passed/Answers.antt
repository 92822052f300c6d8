-- The rows have found the record within the history, so it is read where its location says.
use Rattle.records.proofs.Fields.{is_record}
use Rattle.records.proofs.Room.{located-room}
use Rattle.records.proofs.passed.Goals as goal

pub record_at-requires : goal.record_at-requires
record_at-requires c =
    let place = c.location_of-place.ensures in
    let begin = c.requires in
    located-room _ _ _ c.args.history.sound begin.2 begin.0 place.0 place.1

pub returns : goal.returns
returns c =
    let place = c.location_of-place.ensures in
    is_record _ _ _ c.requires.0 place.0 place.1 c.record_at.ensures
