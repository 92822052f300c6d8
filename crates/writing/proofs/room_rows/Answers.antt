-- What would result is counted, and judged without a sum that could wrap.
use native.Mathlib.Omega.{arith}
use Rattle.rules.proofs.Range.{own-length}
use Rattle.writing.proofs.Pages.{index-room, index_rises, index-paged, before-most, counted-there}
use Rattle.writing.proofs.Room.{room-pages, room_entries, room-short, room_fine}
use Rattle.writing.proofs.room_rows.Goals as goal

pub merged_count-before-requires : goal.merged_count-before-requires
merged_count-before-requires c =
    let q = c.requires.0 in
    let x = c.index-x.ensures in
    record { entries_in_bounds = index-room q x; rising = index_rises q x; distinct = q.differ }

pub count_pages-would-requires : goal.count_pages-would-requires
count_pages-would-requires c =
    let q = c.requires.0 in
    let x = c.index-x.ensures in
    let before = c.merged_count-before.ensures in
    record { entries_in_bounds = (index-room q x, index_rises q x, omega (arith, own-length c.args.st.now (omega (arith, q.touched)), q.touched)); before_value = (before, before-most q x before, index-paged q x, c.requires.1) }

pub returns-then-would-gt-TOUCHED : goal.returns-then-would-gt-TOUCHED
returns-then-would-gt-TOUCHED c =
    let q = c.requires.0 in
    room-pages _ _ _ (counted-there q c.index-x.ensures _ _ _ c.count_pages-would.ensures) c.if-would-gt-TOUCHED.true

pub returns-then-would-gt-ENTRIES : goal.returns-then-would-gt-ENTRIES
returns-then-would-gt-ENTRIES c =
    let q = c.requires.0 in
    room_entries _ _ _ (counted-there q c.index-x.ensures _ _ _ c.count_pages-would.ensures) c.if-would-gt-TOUCHED.false c.if-would-gt-ENTRIES.true

pub returns-then-history-st : goal.returns-then-history-st
returns-then-history-st c =
    let q = c.requires.0 in
    room-short _ _ _ (counted-there q c.index-x.ensures _ _ _ c.count_pages-would.ensures) c.if-would-gt-TOUCHED.false c.if-would-gt-ENTRIES.false c.if-history-st.true

pub returns : goal.returns
returns c =
    let q = c.requires.0 in
    room_fine _ _ _ (counted-there q c.index-x.ensures _ _ _ c.count_pages-would.ensures) c.if-would-gt-TOUCHED.false c.if-would-gt-ENTRIES.false c.if-history-st.false
