-- Each turn passes a part.
use Rattle.std.proofs.Common.{◌*◌, ◌<◌, take}
use Rattle.checksum.proofs.Laws.{Folded}
use Rattle.checksum.proofs.fletcher32_any.Given as goal

abbrev pub invariant-loop-part : goal.invariant-loop-part
invariant-loop-part l = record {
  first_small : l.sums.first < 65536;
  second_small : l.sums.second < 65536;
  sums : Folded (take (4096 * l.part-index) l.bytes) l.sums.first l.sums.second;
}
