-- Each turn passes one word.
use Rattle.std.proofs.Common.{◌+◌, ◌*◌, ◌^◌, ◌≤◌, take}
use Rattle.checksum.specs.Passing.{After}
use Rattle.checksum.proofs.Totals.with_few.Given as goal

abbrev pub invariant-loop-word : goal.invariant-loop-word
invariant-loop-word l = record {
  small : l.totals.first ≤ l.fn.self.first + 65536 * l.word-index;
  great : l.totals.second ≤ l.fn.self.second + 2 ^ 41 * l.word-index;
  passed : After (take (2 * l.word-index) l.bytes) l.fn.self.first l.fn.self.second l.totals.first l.totals.second;
}
