-- What the original has of the bytes is laid, and zeros behind.
use Rattle.view.proofs.Shown.{original_laid}
use Rattle.view.proofs.put_original.Goals as goal

pub returns : goal.returns
returns c =
    let a = c.args in
    original_laid a.original.now a.out.now a.to a.from a.n c.min-start.ensures c.min-there.ensures c.requires c.put_run.ensures c.put_zeros.ensures
