-- The number is laid directly behind the word.
use Rattle.listing.proofs.Lines.{written_run, written_then}
use borrow.Author.Rules.{rules}
use Rattle.listing.proofs.put_number.Goals as goal

pub returns : goal.returns
returns c = written_then (written_run c.put_run.ensures) c.put_decimal.ensures (search rules)
