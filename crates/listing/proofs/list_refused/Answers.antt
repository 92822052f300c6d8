-- The word, the number and the newline are the refusal.
use Rattle.listing.proofs.Lines.{written_run, written_then}
use Rattle.listing.proofs.Text.{fitted_whole, refused_long}
use borrow.Author.Rules.{rules}
use Rattle.listing.proofs.list_refused.Goals as goal

pub returns-then-length-out-clause-text : goal.returns-then-length-out-clause-text
returns-then-length-out-clause-text c =
    fitted_whole _ _ (refused_long _ c.decimal_length-length.ensures.0) c.if-length-out.true (written_then c.put_number-next.ensures (written_run c.put_run.ensures) (search rules))
