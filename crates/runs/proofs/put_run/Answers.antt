-- The run takes the place of as many bytes.
use mathlib.Core.Path.{refl}
use Rattle.rules.proofs.Bytes.{put_mid-laid}
use Rattle.runs.proofs.put_run.Goals as goal

pub returns : goal.returns
returns c = put_mid-laid _ _ _ c.args.at _ c.copy_from_slice.ensures.after refl
