-- Each test is one of the row.
use Rattle.rules.specs.Rows.{texts_wrong}
use Rattle.committing.proofs.texts_wrong.Goals as goal

pub returns : goal.returns
unfolding texts_wrong
returns c = rw (c.time_right.ensures, c.name_right.ensures, c.comment_right.ensures)
