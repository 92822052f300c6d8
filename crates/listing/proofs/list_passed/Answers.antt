-- The two pieces are the lines.
use Rattle.listing.proofs.Lines.{written_then}
use Rattle.listing.proofs.Text.{fitted_whole, lines_long}
use borrow.Author.Rules.{rules}
use Rattle.listing.proofs.list_passed.Goals as goal

pub returns-then-total-out-clause-text : goal.returns-then-total-out-clause-text
returns-then-total-out-clause-text c =
    let long = lines_long _ _ c.setting_length.ensures.0 c.args.lines.counted.all in
    fitted_whole _ _ long c.if-total-out.true (written_then c.put_setting_line-next.ensures c.put_record_lines.ensures (search rules))
