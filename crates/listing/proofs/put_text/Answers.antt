-- The text is laid directly behind the word.
use Rattle.listing.proofs.Lines.{written_run, written_then}
use borrow.Author.Rules.{rules}
use Rattle.listing.proofs.put_text.Goals as goal

pub returns : goal.returns
returns c = written_then (written_run c.put_run.ensures) (written_run c.put_run-2.ensures) (search rules)
