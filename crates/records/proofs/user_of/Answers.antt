-- It is the formula.
use native.Mathlib.Omega.{arith}
use Rattle.rules.specs.Layout.{user_at}
use Rattle.rules.proofs.Places.{count-least}
use Rattle.records.proofs.user_of.Goals as goal

pub get-requires-clause-inside : goal.get-requires-clause-inside
get-requires-clause-inside c = omega (arith, count-least c.args.form, c.requires.0)

pub returns : goal.returns
unfolding user_at
returns c = c.get.ensures.0
