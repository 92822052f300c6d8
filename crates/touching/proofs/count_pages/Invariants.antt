-- After k pages both counts are those that these pages would leave.
use Prim.Native.Nat.{◌-◌}
use Rattle.rules.specs.Layout.{entries_in}
use Rattle.rules.specs.View.{page_of}
use Rattle.touching.proofs.Counting.{Counting}
use Rattle.touching.proofs.count_pages.Given as goal

abbrev pub invariant-loop-k : goal.invariant-loop-k
invariant-loop-k l = Counting (entries_in l.history l.x) l.pages l.x.form.page (page_of l.x.form.page l.offset) l.m l.a l.k l.touched l.merged

abbrev pub decreases-loop-k : goal.decreases-loop-k
decreases-loop-k l = l.m - l.k
