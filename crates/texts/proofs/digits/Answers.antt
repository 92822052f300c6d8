-- The library's test of a digit is the layout's.
use Rattle.std.proofs.Common.{rules, tests, ◌∙◌}
use Rattle.std.proofs.lemmas.Iterator.{YieldsList-from_slice}
use Rattle.std.proofs.lemmas.Iterator.Search.{all_from_yields_List}
use Rattle.rules.specs.Layout.{digit}
use Rattle.texts.proofs.Text.{digits-all}
use Rattle.texts.proofs.digits.Goals as goal

pub returns : goal.returns
returns c = all_from_yields_List digit _ _ _ c.all.ensures.ran (YieldsList-from_slice c.args.bytes.now cc) (λ x b q k. search (rules, tests)) ∙ digits-all c.args.bytes.now
