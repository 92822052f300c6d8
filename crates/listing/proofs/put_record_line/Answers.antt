-- Five pieces, one behind the other, are the line, with time and name from where they stand.
use native.Mathlib.Omega.{arith}
use Rattle.listing.proofs.Lines.{record_long, room_time, room_numbers, room_name, room-newline, record-written}
use Rattle.listing.proofs.put_record_line.Goals as goal

pub put_numbers-next-requires : goal.put_numbers-next-requires
put_numbers-next-requires c = omega (arith, record_long c.requires.1)

pub put_text-next-requires : goal.put_text-next-requires
put_text-next-requires c =
    let time = c.time_at-time in
    let name = c.name_at-name in
    omega (arith, room_time time.result name.result (time.ensures.0 _) name.ensures c.requires c.put_numbers-next.ensures)

pub put_numbers-next-requires-2 : goal.put_numbers-next-requires-2
put_numbers-next-requires-2 c =
    let time = c.time_at-time in
    let name = c.name_at-name in
    omega (arith, room_numbers time.result name.result (time.ensures.0 _) name.ensures c.requires c.put_numbers-next.ensures c.put_text-next.ensures)

pub put_text-next-requires-2 : goal.put_text-next-requires-2
put_text-next-requires-2 c =
    let time = c.time_at-time in
    let name = c.name_at-name in
    omega (arith, room_name time.result name.result (time.ensures.0 _) name.ensures c.requires c.put_numbers-next.ensures c.put_text-next.ensures c.put_numbers-next-2.ensures)

pub put_run-requires : goal.put_run-requires
put_run-requires c =
    let time = c.time_at-time in
    let name = c.name_at-name in
    omega (arith, room-newline time.result name.result (time.ensures.0 _) name.ensures c.requires c.put_numbers-next.ensures c.put_text-next.ensures c.put_numbers-next-2.ensures c.put_text-next-2.ensures)

pub overflow_add-result : goal.overflow_add-result
overflow_add-result c =
    let time = c.time_at-time in
    let name = c.name_at-name in
    omega (arith, room-newline time.result name.result (time.ensures.0 _) name.ensures c.requires c.put_numbers-next.ensures c.put_text-next.ensures c.put_numbers-next-2.ensures c.put_text-next-2.ensures)

pub returns : goal.returns
returns c =
    let time = c.time_at-time in
    let name = c.name_at-name in
    record-written time.result name.result (time.ensures.0 _) name.ensures c.requires c.put_numbers-next.ensures c.put_text-next.ensures c.put_numbers-next-2.ensures c.put_text-next-2.ensures c.put_run.ensures
