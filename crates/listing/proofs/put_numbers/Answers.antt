-- The second number is laid directly behind the space.
use lib.ListN.{length-append}
use native.Mathlib.Omega.{arith}
use Rattle.listing.proofs.Lines.{written_more}
use Rattle.listing.proofs.put_numbers.Goals as goal

pub returns : goal.returns
returns c = written_more _ _ c.put_number-next.ensures c.put_number.ensures (omega (arith, simp length-append at c.put_number-next.ensures.next))
