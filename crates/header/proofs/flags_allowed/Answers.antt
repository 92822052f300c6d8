-- The mask leaves what is four or more.
use Rattle.header.proofs.Flags.{rest_mask}
use borrow.Author.Rules.{rules}
use Rattle.header.proofs.flags_allowed.Goals as goal

pub returns : goal.returns
returns c = rest_mask c.args.flags (search rules)
