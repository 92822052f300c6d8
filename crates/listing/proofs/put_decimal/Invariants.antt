-- The digits so far stand behind those that are left, and the last turn lays the first.
use Rattle.listing.proofs.Digits.{DigitsLaid}
use Rattle.listing.proofs.put_decimal.Given as goal

abbrev pub invariant-loop-left : goal.invariant-loop-left
invariant-loop-left l = DigitsLaid l.initial.out l.at l.n l.left l.place l.out

abbrev pub decreases-loop-left : goal.decreases-loop-left
decreases-loop-left l = l.left
