-- Judged once; then record, whole history and, last, the header.
use mathlib.Core.Path.{refl}
use native.Mathlib.Omega.{arith}
use Rattle.rules.proofs.Refusals.{refused, handed_on}
use Rattle.committing.proofs.Layings.{texts-room, record-laid, extensible, commit_leaves}
use Rattle.committing.proofs.Rows.{commit_refused, commit-accepted}
use Rattle.committing.proofs.commit.Goals as goal

pub returns-in_err-p : goal.returns-in_err-p
returns-in_err-p c =
    let a = c.args in
    rw (handed_on _ _ c.from_residual.ensures.1) (commit_refused _ _ _ _ _ a.user c.in_err-p.ensures.number (refused _))

pub put_texts-requires : goal.put_texts-requires
put_texts-requires c =
    let w = c.in_ok-p.ensures.standing in
    let q = w.standing in
    (omega (arith, texts-room q, w.named, w.commented), omega (arith, q.session.parent.sound.short), q.few)

pub put_end-requires : goal.put_end-requires
put_end-requires c =
    let w = c.in_ok-p.ensures.standing in
    extensible w c.args.user _ (record-laid w c.args.user _ _ c.put_indexed.ensures c.put_texts.ensures)

pub returns : goal.returns
returns c =
    let judged = c.in_ok-p.ensures in
    let w = judged.standing in
    let a = c.args in
    let recorded = record-laid w a.user _ _ c.put_indexed.ensures c.put_texts.ensures in
    commit-accepted _ _ _ _ _ a.user judged.number refl w.standing.session (commit_leaves w a.user _ recorded _ c.put_end.ensures) c.ended.ensures
