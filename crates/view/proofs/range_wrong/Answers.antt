-- The pages that the range shares a byte with lie one behind the other from the first byte's on.
use Rattle.rules.proofs.Range.{page-multiple}
use Rattle.view.proofs.Pages.{range-room}
use Rattle.view.proofs.range_wrong.Goals as goal

pub pages_wrong-requires : goal.pages_wrong-requires
pages_wrong-requires c =
    let w = c.requires.0 in
    (w, range-room _ c.args.at c.args.n c.pages_in-m.ensures c.requires.1 w.least w.most, page-multiple _ c.args.at)
