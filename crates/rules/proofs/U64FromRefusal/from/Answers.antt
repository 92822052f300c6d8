-- The variants are declared with their numbers.
use Rattle.rules.proofs.Refusals.{tag-number}
use Rattle.rules.proofs.U64FromRefusal.from.Goals as goal

pub returns : goal.returns
returns c = tag-number c.args.refusal
