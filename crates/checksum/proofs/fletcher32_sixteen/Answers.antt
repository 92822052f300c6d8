-- The eight words in two halves, both from nothing on.
use Rattle.std.proofs.Common.{arith}
use Rattle.checksum.proofs.Laws.{sixteen_answer}
use Rattle.checksum.proofs.fletcher32_sixteen.Goals as goal

pub returns : goal.returns
returns c = sixteen_answer _ c.args.at _ _ _ _ _ _ _ _ _ _ _ c.requires (omega arith) (omega arith) c.with_few-left.ensures.after c.with_few-right.ensures.after (c.«then».ensures.sums.0, c.«then».ensures.sums.1) (c.folded.ensures.0, c.folded.ensures.1) c.checksum.ensures
