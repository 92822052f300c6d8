-- Judged once; then the rows of the write, and its pages.
use mathlib.Core.Path.{refl}
use Rattle.rules.proofs.Refusals.{refused, handed_on}
use Rattle.writing.proofs.Steps.{write_begin, write-behind, write_refused, write_done}
use Rattle.writing.proofs.write.Goals as goal

pub returns-in_err-parent : goal.returns-in_err-parent
returns-in_err-parent c =
    let a = c.args in
    rw (handed_on _ _ c.from_residual.ensures.1) (write_refused _ _ _ a.at a.bytes.now _ (write_begin _ _ _ a.at _ c.in_err-parent.ensures.number (refused _)) (refused _))

pub returns-in_err-write_rows : goal.returns-in_err-write_rows
returns-in_err-write_rows c =
    let judged = c.in_ok-parent.ensures in
    let a = c.args in
    rw (handed_on _ _ c.from_residual-in_err-write_rows.ensures.1) (write_refused _ _ _ a.at a.bytes.now _ (write-behind _ _ _ a.at _ judged.number refl judged.sound c.in_err-write_rows.ensures.number) (refused _))

pub returns : goal.returns
returns c =
    let judged = c.in_ok-parent.ensures in
    let w = judged.sound in
    let a = c.args in
    write_done _ _ _ a.at a.bytes.now (write-behind _ _ _ a.at _ judged.number refl w c.in_ok-write_rows.ensures.number) refl w c.put_written.ensures
