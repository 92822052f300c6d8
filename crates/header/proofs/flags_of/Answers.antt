-- Each of the four cases is its own number.
use Rattle.rules.specs.Layout.{flags_of}
use Rattle.header.proofs.Flags.{flags_joined}
use Rattle.header.proofs.flags_of.Goals as goal

pub returns : goal.returns
unfolding flags_of
returns c = rw (c.from.ensures, c.from-lock.ensures, c.from-branching.ensures) (flags_joined _ _)
