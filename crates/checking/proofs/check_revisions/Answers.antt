-- What is left of the check is the rule of what is left, and a fault that is found is its whole answer.
use Rattle.checking.proofs.Checking.{index-inside, page-inside, revisions-start, revisions-end, revisions-fault, entries-start, entries-fault, entries_turn, entries-end}
use borrow.Author.Rules.{rules}
use mathlib.Core.Path.{refl}
use Rattle.rules.proofs.Refusals.{refused}
use Rattle.checking.proofs.check_revisions.Goals as goal

pub revisions-init : goal.revisions-init
revisions-init c = revisions-start _ _

pub loop-j-init : goal.loop-j-init
loop-j-init c =
    let judged = c.in-Ok.ensures in
    entries-start c.revisions.invariant (search rules) judged.number refl judged.sound c.index-x.ensures

pub entry-e-requires : goal.entry-e-requires
entry-e-requires c = (index-inside c.in-Ok.ensures.sound c.index-x.ensures, search rules)

pub page_sum_wrong-requires : goal.page_sum_wrong-requires
page_sum_wrong-requires c =
    let w = c.in-Ok.ensures.sound in
    (page-inside w c.index-x.ensures _ (search rules) c.entry-e.ensures, w.sound.short)

pub loop-j-preserved : goal.loop-j-preserved
loop-j-preserved c = entries_turn c.loop-j.invariant (search rules) c.entry-e.ensures c.page_sum_wrong.ensures c.if-page_sum_wrong.false

pub revisions-preserved : goal.revisions-preserved
revisions-preserved c = entries-end c.loop-j.invariant (search rules) (search rules)

pub returns : goal.returns
returns c = revisions-end c.revisions.invariant (search rules)

pub returns-in-Ok : goal.returns-in-Ok
returns-in-Ok c =
    let last = entries-end c.loop-j.invariant (search rules) (search rules) in
    revisions-end last (search rules)

pub returns-in-Err : goal.returns-in-Err
returns-in-Err c = revisions-fault c.revisions.invariant (search rules) c.in-Err.ensures.number (refused _)

pub returns-then-page_sum_wrong : goal.returns-then-page_sum_wrong
returns-then-page_sum_wrong c = entries-fault c.loop-j.invariant (search rules) c.entry-e.ensures c.page_sum_wrong.ensures c.if-page_sum_wrong.true
