-- Bytes there are none, or from the first byte's page to the last's.
use Rattle.rules.proofs.Range.{pages-none, pages_some}
use Rattle.view.proofs.pages_in.Goals as goal

pub returns-then-n-eq0 : goal.returns-then-n-eq0
returns-then-n-eq0 c = pages-none _ _ _ c.if-n-eq0.true

pub returns : goal.returns
returns c = pages_some _ _ _ c.if-n-eq0.false
