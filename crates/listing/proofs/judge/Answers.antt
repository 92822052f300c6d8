-- The rows come one behind the other.
use mathlib.Core.Path.{refl, sym, ◌∙◌}
use Rattle.rules.proofs.Refusals.{refused, number-handed_on}
use Rattle.listing.proofs.Passing.{list_over, list-fault, list_past}
use Rattle.listing.proofs.judge.Goals as goal

pub returns-then-most-history-clause-number : goal.returns-then-most-history-clause-number
returns-then-most-history-clause-number c = list_over _ _ c.if-most-history.true

pub returns-in_err-history-clause-number : goal.returns-in_err-history-clause-number
returns-in_err-history-clause-number c = number-handed_on _ _ c.from_residual.ensures.1 ∙ list-fault _ _ c.if-most-history.false c.in_err-history.ensures.number (refused _)

pub returns-in_err-records-clause-number : goal.returns-in_err-records-clause-number
returns-in_err-records-clause-number c =
    let whole = c.in_ok-history.ensures in
    let sound = rw whole.lent at c.in_ok-history.history.sound in
    list_past _ _ c.if-most-history.false whole.number refl sound (number-handed_on _ _ c.from_residual-in_err-records.ensures.1 ∙ rw whole.lent at c.in_err-records.ensures.number)

pub returns : goal.returns
returns c =
    let whole = c.in_ok-history.ensures in
    let sound = rw whole.lent at c.in_ok-history.history.sound in
    record { number = list_past _ _ c.if-most-history.false whole.number refl sound (rw whole.lent at c.in_ok-records.ensures.number); lent = whole.lent }

pub invariant_of-result : goal.invariant_of-result
invariant_of-result c = let records = c.in_ok-records.ensures in record { clear = sym records.number; counted = records.counted }
