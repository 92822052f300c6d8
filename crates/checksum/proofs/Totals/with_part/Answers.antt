-- The rows from nothing on, with the first sum counted once a word, and then what is left.
use Rattle.checksum.proofs.Laws.{part_after}
use Rattle.checksum.proofs.Totals.with_part.Goals as goal

pub returns : goal.returns
returns c = part_after _ _ _ _ _ _ _ _ _ _ _ c.split_at.ensures.front c.split_at.ensures.back c.rows.ensures.after (c.«then».ensures.sums.0, c.«then».ensures.sums.1) c.with_few-2.ensures.after
