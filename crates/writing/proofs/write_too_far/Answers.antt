-- The limit less the offset leaves room for the bytes.
use Rattle.writing.proofs.Steps.{far_judged}
use Rattle.writing.proofs.write_too_far.Goals as goal

pub returns : goal.returns
returns c = far_judged _ _ c.requires
