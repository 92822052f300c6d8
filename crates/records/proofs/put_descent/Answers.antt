-- The stores stand one behind the other.
use native.Mathlib.Omega.{arith}
use Rattle.rules.proofs.Places.{count-least}
use Rattle.records.proofs.Front.{descent-laid}
use Rattle.records.proofs.put_descent.Goals as goal

pub put-requires-clause-inside : goal.put-requires-clause-inside
put-requires-clause-inside c = omega (arith, count-least c.args.form, c.requires.0)

pub put_run-requires : goal.put_run-requires
put_run-requires c = omega (arith, count-least c.args.form, c.requires.0, c.requires.1)

pub returns : goal.returns
returns c =
    let a = c.args in
    descent-laid a.form a.r _ _ _ _ _ c.requires.0 c.put_start.ensures c.put.ensures c.put_run.ensures
