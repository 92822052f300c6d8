-- Each turn gives every lane one word.
use Rattle.std.proofs.Common.{◌*◌, take}
use Rattle.checksum.proofs.Eight.{Lanes}
use Rattle.checksum.proofs.rows.Given as goal

abbrev pub invariant-loop-row : goal.invariant-loop-row
invariant-loop-row l = Lanes (take (16 * l.row-index) l.bytes) l.row-index l.firsts l.seconds
