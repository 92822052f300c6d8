-- Six pieces, one behind the other, are the line.
use Rattle.listing.proofs.Lines.{setting-written}
use borrow.Author.Rules.{rules}
use Rattle.listing.proofs.put_setting_line.Goals as goal

pub returns : goal.returns
returns c =
    setting-written _ (search rules) c.put_number-page.ensures c.put_number-original.ensures c.put_number-count.ensures c.put_flag-lock.ensures c.put_flag-branch.ensures c.put_run.ensures
