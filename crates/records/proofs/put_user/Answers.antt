-- It is the formula.
use native.Mathlib.Omega.{arith}
use Rattle.rules.specs.Layout.{user_bytes}
use Rattle.rules.proofs.Places.{count-least}
use Rattle.records.proofs.put_user.Goals as goal

pub put-requires-clause-inside : goal.put-requires-clause-inside
put-requires-clause-inside c = omega (arith, count-least c.args.form, c.requires)

pub returns : goal.returns
unfolding user_bytes
returns c = c.put.ensures
