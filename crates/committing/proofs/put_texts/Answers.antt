-- Each stands behind the one before it.
use Rattle.committing.proofs.Layings.{texts-laid}
use Rattle.committing.proofs.put_texts.Goals as goal

pub returns : goal.returns
returns c =
    let a = c.args in
    texts-laid a.form a.r _ _ _ _ _ _ c.name_at-at.ensures c.put_run.ensures c.put_run-2.ensures c.put_sum.ensures
