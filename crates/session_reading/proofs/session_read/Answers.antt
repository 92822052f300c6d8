-- Judged once; then the rows and the bytes of the session's view.
use mathlib.Core.Path.{refl}
use Prim.Native.Nat.{ℕ}
use native.Mathlib.Omega.{arith}
use lib.ListN.{length-take}
use Rattle.rules.proofs.Refusals.{refused, handed_on}
use Rattle.reading.proofs.Seen.{view_seen}
use Rattle.session_reading.proofs.Steps.{read_refused, begin_refused, rows_behind_lem, read_done}
use Rattle.session_reading.proofs.session_read.Goals as goal

pub returns-in_err-parent : goal.returns-in_err-parent
returns-in_err-parent c =
    let a = c.args in
    rw (handed_on _ _ c.from_residual.ensures.1) (read_refused a.st.now _ _ a.at _ (begin_refused a.st.now _ _ a.at a.out.now c.in_err-parent.ensures.number (refused _)) (refused _))

pub range_rows-requires : goal.range_rows-requires
range_rows-requires c =
    let w = c.in_ok-parent.ensures.sound in
    (view_seen w.parent c.index.ensures w.room (omega (arith, length-take {A = ℕ})), w.small)

pub returns-in_err-range_rows : goal.returns-in_err-range_rows
returns-in_err-range_rows c =
    let judged = c.in_ok-parent.ensures in
    let a = c.args in
    rw (handed_on _ _ c.from_residual-in_err-range_rows.ensures.1) (read_refused a.st.now _ _ a.at _ (rows_behind_lem a.st.now _ _ a.at a.out.now judged.sound c.index.ensures judged.number refl c.in_err-range_rows.ensures.number) (refused _))

pub put_view-requires : goal.put_view-requires
put_view-requires c =
    let w = c.in_ok-parent.ensures.sound in
    (view_seen w.parent c.index.ensures w.room (omega (arith, length-take {A = ℕ})), omega (arith, c.in_ok-range_rows.ensures.inside, w.small))

pub returns : goal.returns
returns c =
    let judged = c.in_ok-parent.ensures in
    let a = c.args in
    read_done a.st.now _ _ a.at _ judged.sound c.index.ensures judged.number refl c.in_ok-range_rows.ensures.number refl c.put_view.ensures
