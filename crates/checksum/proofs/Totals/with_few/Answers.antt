-- A word is two bytes, its low byte first, and an odd last byte is a low half.
use Rattle.std.proofs.Common.{rules, arith}
use Rattle.checksum.proofs.Laws.{word_more, byte_more}
use Rattle.checksum.proofs.Totals.with_few.Goals as goal

pub loop-word-preserved : goal.loop-word-preserved
loop-word-preserved c = record {
  small = search rules;
  great = search rules;
  passed = word_more _ _ _ _ _ _ _ _ _ _ c.as_chunks.ensures.front (omega arith) c.loop-word.invariant.passed c.from_le_bytes.ensures (c.with_word-totals.ensures.0, c.with_word-totals.ensures.1);
}

pub returns-in-len1-clause-after : goal.returns-in-len1-clause-after
returns-in-len1-clause-after c = byte_more _ _ _ _ _ _ _ _ _ _ c.as_chunks.ensures.back (omega arith) (omega arith) c.loop-word.invariant.passed c.from.ensures (c.with_word-totals-in-len1.ensures.0, c.with_word-totals-in-len1.ensures.1)
