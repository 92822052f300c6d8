-- Nothing is laid, or the stored page's bytes where the index has the page, or the original's.
use mathlib.Core.Path.{sym}
use Prim.Native.Nat.{◌+◌, ◌≤◌}
use native.Mathlib.Omega.{arith}
use Rattle.rules.specs.Bytes.{tabulate}
use Rattle.rules.proofs.Bytes.{laid-nothing}
use Rattle.touching.proofs.Copies.{page-stored, page-original, source_entry}
use Rattle.touching.proofs.Page.put_parent.Goals as goal
use Rattle.touching.proofs.Page.put_parent.Goals.{After-entry-e}

-- The stored page lies ahead.
ahead : (c : After-entry-e) → c.entry-e.result.physical + (c.args.from + c.args.n) ≤ c.args.to
ahead c = source_entry c.requires.0 c.in-Some.ensures.place.1 c.entry-e.ensures

pub returns-then-n-eq0 : goal.returns-then-n-eq0
unfolding tabulate
returns-then-n-eq0 c = rw c.if-n-eq0.true (sym (laid-nothing _ _))

pub overflow_add-e : goal.overflow_add-e
overflow_add-e c = omega (arith, ahead (goal.at.overflow_add-e c).After-entry-e, c.requires.0.room)

pub copy_run-requires : goal.copy_run-requires
copy_run-requires c = (omega (arith, ahead (goal.at.copy_run-requires c).After-entry-e), c.requires.0.room)

pub returns-in-Some : goal.returns-in-Some
returns-in-Some c =
    let a = c.args in
    let p = a.self.now in
    let w = p.write.now in
    let there = c.in-Some.ensures.place in
    page-stored w.original.now _ w.index a.to p.address a.from a.n there.0 there.1 c.entry-e.ensures (omega (arith, ahead (goal.at.returns-in-Some c).After-entry-e, c.requires.0.room)) c.copy_run.ensures

pub returns-in-None : goal.returns-in-None
returns-in-None c =
    let a = c.args in
    let p = a.self.now in
    let w = p.write.now in
    page-original w.original.now _ w.index a.to p.address a.from a.n c.in-None.ensures.found c.put_original.ensures
