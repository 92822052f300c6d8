-- Four stores, one behind the other, with room for all of them.
use native.Mathlib.Omega.{arith}
use Rattle.whole.proofs.Stored.{room, behind, whole-laid}
use Rattle.whole.proofs.put_whole.Goals as goal

pub end_of-start-requires : goal.end_of-start-requires
end_of-start-requires c =
    let y = c.requires in
    (y.paged, omega (arith, y.short, room y, behind y), y.sized)

pub put_start-requires : goal.put_start-requires
put_start-requires c = omega (arith, c.end_of-start.ensures, room c.requires)

pub overflow_add-start : goal.overflow_add-start
overflow_add-start c = omega (arith, c.end_of-start.ensures, room c.requires, c.requires.short)

pub copy_run-requires : goal.copy_run-requires
copy_run-requires c =
    let y = c.requires in
    let e = c.end_of-start.ensures in
    (omega (arith, e, y.ahead, behind y), omega (arith, e, room y))

pub overflow_add-added : goal.overflow_add-added
overflow_add-added c = omega (arith, c.end_of-start.ensures, room c.requires, c.requires.short)

pub overflow_add-added-2 : goal.overflow_add-added-2
overflow_add-added-2 c = omega (arith, c.end_of-start.ensures, room c.requires, c.requires.short)

pub put_location-requires : goal.put_location-requires
put_location-requires c =
    let y = c.requires in
    (omega (arith, c.end_of-start.ensures, room y), omega (arith, y.short))

pub overflow_add-added-3 : goal.overflow_add-added-3
overflow_add-added-3 c = omega (arith, c.end_of-start.ensures, room c.requires, c.requires.short)

pub put_sum-requires : goal.put_sum-requires
put_sum-requires c =
    let y = c.requires in
    (omega arith, omega (arith, c.end_of-start.ensures, room y), omega (arith, y.short))

pub returns : goal.returns
returns c =
    whole-laid c.requires c.end_of-start.ensures _ _ _ _ c.put_start.ensures c.copy_run.ensures c.put_location.ensures c.put_sum.ensures
