-- The pages passed are counted unless an entry is theirs, and each turn passes pages, or an entry, or both.
use Prim.Native.Nat.{◌+◌, ◌-◌}
use Rattle.rules.specs.Layout.{entries_in}
use Rattle.touching.proofs.Counting.{Passing}
use Rattle.touching.proofs.missing_pages.Given as goal

abbrev pub invariant-loop-k : goal.invariant-loop-k
invariant-loop-k l = Passing (entries_in l.history l.x) l.x.form.page l.first l.m l.k l.place l.count

abbrev pub decreases-loop-k : goal.decreases-loop-k
decreases-loop-k l = l.m - l.k + (l.x.entries - l.place)
