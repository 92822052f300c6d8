-- The pages are written, and the size is the greater of the two.
use mathlib.Core.Path.{◌≡◌}
use lib.ListN.{length}
use borrow.Author.Rules.{rules}
use Rattle.writing.proofs.Pages.{ready, written_whole}
use Rattle.writing.proofs.put_written.Goals as goal

pub put-t-requires-clause-ready : goal.put-t-requires-clause-ready
put-t-requires-clause-ready c =
    let full : length c.args.st.pages ≡ 256 = search rules in
    ready _ _ c.requires c.index.ensures full

pub returns : goal.returns
returns c =
    let a = c.args in
    written_whole _ _ a.parent.setting a.st a.parent.record a.at _ c.index.ensures c.put-t.ensures c.max-size.ensures
