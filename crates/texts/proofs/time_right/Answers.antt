-- Each test is one of the rule, in its order.
use Rattle.std.proofs.Common.{arith}
use Rattle.std.proofs.lemmas.Bool.Decides.{nat_tests}
use Rattle.texts.proofs.Text.{time_parts}
use Rattle.texts.proofs.time_right.Goals as goal

pub returns-then-time-eq16 : goal.returns-then-time-eq16
returns-then-time-eq16 c =
    time_parts _ c.if-time-eq16.true c.digits.ensures c.digits-then-time-eq16.ensures
    c.two_digits.ensures (grind (arith, nat_tests)) c.two_digits-then-time-eq16.ensures
    (grind (arith, nat_tests)) c.two_digits-then-time-eq16-2.ensures c.two_digits-then-time-eq16-3.ensures c.two_digits-then-time-eq16-4.ensures
