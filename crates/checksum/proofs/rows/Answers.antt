-- A row's words go one to each lane.
use Rattle.std.proofs.Common.{arith}
use Rattle.checksum.proofs.Laws.{even_front, run_joined}
use Rattle.checksum.proofs.Eight.{lanes_sum, firsts_room, seconds_room, lanes_turn}
use Rattle.checksum.proofs.rows.Goals as goal

pub overflow_add-firsts : goal.overflow_add-firsts
overflow_add-firsts c = firsts_room _ _ _ _ c.loop-row.invariant _ c.words-firsts.ensures.2 (omega arith)

pub overflow_add-seconds : goal.overflow_add-seconds
overflow_add-seconds c = seconds_room _ _ _ _ c.loop-row.invariant _ c.words-firsts.ensures.2 (omega arith)

pub loop-row-preserved : goal.loop-row-preserved
loop-row-preserved c =
    let l = c.loop-row in
    let words = c.words-firsts.ensures in
    lanes_turn _ _ _ _ l.invariant _ words.2 (omega arith) _ _ l.auto.firsts.0 l.auto.seconds.0 words.1 words.0 (even_front _ _ (omega arith) (omega arith)) (run_joined 16 _ _ _ _ c.as_chunks.ensures.front (omega arith) (omega arith) (omega arith))

pub returns-clause-small : goal.returns-clause-small
returns-clause-small c =
    let l = c.loop-row in
    (omega (arith, lanes_sum _ l.auto.firsts, c.gather.ensures.0), omega (arith, lanes_sum _ l.auto.seconds, c.gather.ensures.1))
