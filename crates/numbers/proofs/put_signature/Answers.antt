-- The signature takes the place of as many bytes.
use native.Mathlib.Omega.{arith}
use Rattle.rules.proofs.Bytes.{put_mid-laid}
use Rattle.numbers.proofs.put_signature.Goals as goal

pub returns : goal.returns
returns c = put_mid-laid _ _ _ c.args.at 4 c.copy_from_slice.ensures.after (omega arith)
