-- The three stores stand one behind the other.
use native.Mathlib.Omega.{arith}
use Rattle.parts.proofs.Laid.{start-laid}
use Rattle.parts.proofs.put_start.Goals as goal

pub returns : goal.returns
returns c =
    let versioned = rw c.version.ensures at c.put_signature-2.ensures in
    start-laid c.args.form _ _ _ _ c.args.signature _ _ (omega arith) c.requires c.put_signature.ensures versioned c.put.ensures
