-- The record's end is near the record, so the sum does not wrap.
use Rattle.committing.proofs.Rows.{room_is, setting-near}
use Rattle.committing.proofs.no_room.Goals as goal

pub end_of-requires : goal.end_of-requires
end_of-requires c =
    let p = c.requires in
    let near = setting-near c.args.s c.args.r c.setting_stored-t.ensures p.0 p.1 p.2 p.3 in
    (near.0, near.1, near.2)

pub returns : goal.returns
returns c =
    let a = c.args in
    room_is _ a.s a.r c.setting_stored-t.ensures c.end_of.ensures
