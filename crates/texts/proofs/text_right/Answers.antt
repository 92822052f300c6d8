-- All bytes but the last are printable, and the last is zero.
use Rattle.std.proofs.Common.{◌≡◌, ◌&&◌, eqb, arith, ◌∙◌}
use Rattle.std.proofs.lemmas.Bool.Decides.{nat_tests}
use Rattle.std.proofs.lemmas.Iterator.{YieldsList-from_slice}
use Rattle.std.proofs.lemmas.Iterator.Search.{all_from_yields_List}
use Rattle.rules.specs.Layout.{within, text_right}
use Rattle.texts.proofs.Text.{text-all}
use Rattle.texts.proofs.text_right.Goals as goal
use Rattle.texts.proofs.text_right.Goals.{After-all}

judged : (c : After-all) → c.all.result && eqb c.in-Some.last.now 0 ≡ text_right c.args.text.now
judged c =
    let printed = all_from_yields_List (within 0x20 0x7E) _ _ c.all.result c.all.ensures.ran (YieldsList-from_slice c.in-Some.printed.now cc) (λ x b q k. grind (arith, nat_tests)) in
    rw (printed, c.in-Some.ensures.cases.0) (text-all _ _)

pub returns-then-all : goal.returns-then-all
returns-then-all c = rw c.if-all.true at (judged (goal.at.returns-then-all c).After-all)

pub returns-else-all : goal.returns-else-all
returns-else-all c = c.if-all.false ∙ rw c.if-all.false at (judged (goal.at.returns-else-all c).After-all)
