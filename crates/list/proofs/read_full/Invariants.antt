-- Each turn takes the next bytes of the input, and leaves less to fill.
use Rattle.std.proofs.Common.{length, ◌-◌, ◌≤◌, take, ◌≡◌}
use Rattle.std.specs.Io.KnownBytes.{Consumes}
use Rattle.list.proofs.read_full.Given as goal

abbrev pub invariant-loop-read : goal.invariant-loop-read
invariant-loop-read g l = (length l.buffer ≡ length l.initial.buffer) × (l.read ≤ length l.buffer) × Consumes (g.R.Read.remaining l.initial.from) (g.R.Read.remaining l.from) (take l.read l.buffer)

abbrev pub decreases-loop-read : goal.decreases-loop-read
decreases-loop-read g l = length l.buffer - l.read
