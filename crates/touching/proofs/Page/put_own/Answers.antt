-- The run of the write that falls into the page is laid over it.
use mathlib.Core.Path.{◌∙◌}
use Rattle.touching.proofs.Touches.{over_run}
use Rattle.touching.proofs.Page.put_own.Goals as goal

pub returns : goal.returns
returns c = c.put_run.ensures ∙ over_run _ c.args.to c.run-run.ensures
