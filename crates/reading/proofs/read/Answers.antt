-- Judged once; then the rows and the bytes of the record's view.
use mathlib.Core.Path.{refl}
use native.Mathlib.Omega.{arith}
use Rattle.rules.proofs.Rows.{left_alone}
use Rattle.rules.proofs.Refusals.{refused, handed_on}
use Rattle.reading.proofs.Seen.{view_seen}
use Rattle.reading.proofs.Steps.{read_refused, read_behind, read_gives, read_answers}
use Rattle.reading.proofs.read.Goals as goal

pub returns-in_err-read : goal.returns-in_err-read
returns-in_err-read c =
    let a = c.args in
    let rows = read_refused _ _ a.revision a.at _ c.in_err-read.ensures.number (refused _) in
    rw (handed_on _ _ c.from_residual.ensures.1) (read_answers _ _ a.revision a.at a.out.now rows (left_alone _ _ _ (refused _)))

pub range_rows-requires : goal.range_rows-requires
range_rows-requires c =
    let w = c.in_ok-read.ensures.standing in
    (view_seen w c.index.ensures {n = 0} (omega arith) (omega arith), w.right.small)

pub returns-in_err-range_rows : goal.returns-in_err-range_rows
returns-in_err-range_rows c =
    let judged = c.in_ok-read.ensures in
    let a = c.args in
    let rows = read_behind _ _ a.revision a.at _ judged.standing c.index.ensures judged.number refl c.in_err-range_rows.ensures.number in
    rw (handed_on _ _ c.from_residual-in_err-range_rows.ensures.1) (read_answers _ _ a.revision a.at a.out.now rows (left_alone _ _ _ (refused _)))

pub put_view-requires : goal.put_view-requires
put_view-requires c =
    let w = c.in_ok-read.ensures.standing in
    (view_seen w c.index.ensures {n = 0} (omega arith) (omega arith), omega (arith, c.in_ok-range_rows.ensures.inside, w.right.small))

pub returns : goal.returns
returns c =
    let judged = c.in_ok-read.ensures in
    let a = c.args in
    let w = judged.standing in
    let x = c.index.ensures in
    read_answers _ _ a.revision a.at a.out.now (read_behind _ _ a.revision a.at _ w x judged.number refl c.in_ok-range_rows.ensures.number) (read_gives _ _ a.revision a.at _ w x 0 c.put_view.ensures)
