-- Parts of even length, with the sums folded between them, leave the same remainders.
use Rattle.std.proofs.Common.{arith, rules}
use Rattle.checksum.proofs.Laws.{folded_turn, any_answer}
use Rattle.checksum.proofs.fletcher32_any.Goals as goal

pub loop-part-preserved : goal.loop-part-preserved
loop-part-preserved c = record {
  first_small = search rules;
  second_small = search rules;
  sums = folded_turn _ _ _ _ _ _ _ _ _ c.as_chunks.ensures.front (omega arith) c.loop-part.invariant.sums c.with_part.ensures (c.folded-sums.ensures.0, c.folded-sums.ensures.1);
}

pub returns : goal.returns
returns c = any_answer _ _ _ _ _ _ _ _ _ _ c.as_chunks.ensures.back (omega arith) c.loop-part.invariant.sums c.with_part-2.ensures (c.folded.ensures.0, c.folded.ensures.1) c.checksum.ensures
