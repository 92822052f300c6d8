-- A part that is too large is a fault; else the ends are worked out.
use native.Mathlib.Omega.{arith}
use Rattle.records.proofs.Fields.{lies-fault, lies_far, lies_parts}
use Rattle.records.proofs.record_lies.Goals as goal

pub returns-then-s-r : goal.returns-then-s-r
returns-then-s-r c = let a = c.args in lies_far a.s a.r (λ w. omega arith)

pub returns-then-s-r-2 : goal.returns-then-s-r-2
returns-then-s-r-2 c = let a = c.args in lies_far a.s a.r (λ w. omega arith)

pub returns-then-r-gt-ENTRIES : goal.returns-then-r-gt-ENTRIES
returns-then-r-gt-ENTRIES c = let a = c.args in lies-fault a.s a.r (λ w. omega (arith, w.few))

pub returns-then-r-gt-NAME : goal.returns-then-r-gt-NAME
returns-then-r-gt-NAME c = let a = c.args in lies-fault a.s a.r (λ w. omega (arith, w.named))

pub returns-then-r-gt-COMMENT : goal.returns-then-r-gt-COMMENT
returns-then-r-gt-COMMENT c = let a = c.args in lies-fault a.s a.r (λ w. omega (arith, w.commented))

pub returns : goal.returns
returns c =
    let a = c.args in
    lies_parts a.s a.r (omega arith) (omega arith) (omega arith) c.empty_end.ensures c.end_of.ensures c.record_size.ensures
