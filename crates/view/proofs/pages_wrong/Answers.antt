-- The entries between the two places are those of the pages; the ones passed are fine.
use native.Mathlib.Omega.{arith}
use Rattle.view.proofs.Pages.{last_within, entries-fault, entries-end}
use Rattle.view.proofs.pages_wrong.Goals as goal

pub unowned_wrong-requires : goal.unowned_wrong-requires
unowned_wrong-requires c = (c.requires.0, omega (arith, last_within c.requires.0 c.args.first c.args.m c.loop-place.invariant c.place_from-last.ensures))

pub returns-then-unowned_wrong : goal.returns-then-unowned_wrong
returns-then-unowned_wrong c =
    entries-fault c.requires.0 c.args.first c.args.m c.loop-place.invariant c.place_from-last.ensures c.loop-place-test.true c.unowned_wrong.ensures c.requires.2 c.if-unowned_wrong.true

pub returns : goal.returns
returns c =
    entries-end c.requires.0 c.args.first c.args.m c.loop-place.invariant c.place_from-last.ensures c.loop-place-test.false
