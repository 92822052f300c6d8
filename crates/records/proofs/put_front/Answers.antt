-- The stores stand one behind the other.
use native.Mathlib.Omega.{arith}
use Rattle.rules.proofs.Places.{count-least}
use Rattle.records.proofs.Front.{front-laid}
use Rattle.records.proofs.put_front.Goals as goal

pub put-requires-clause-inside : goal.put-requires-clause-inside
put-requires-clause-inside c = omega (arith, count-least c.args.form, c.requires.0)

pub put-requires-2-clause-inside : goal.put-requires-2-clause-inside
put-requires-2-clause-inside c = omega (arith, count-least c.args.form, c.requires.0)

pub returns : goal.returns
returns c =
    let a = c.args in
    front-laid a.form a.r _ c.requires.1 _ _ _ _ _ _ _ _ _ c.requires.0 (rw c.entry_count_at.ensures) c.put_descent.ensures c.put.ensures c.put-2.ensures c.put_user.ensures c.put-3.ensures c.put-4.ensures c.put-5.ensures
