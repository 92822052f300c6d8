-- The stores stand one behind the other.
use mathlib.Core.Path.{◌∙◌}
use native.Mathlib.Omega.{arith}
use Rattle.header.proofs.Fields.{front_stores}
use Rattle.header.proofs.put_front.Goals as goal

pub returns : goal.returns
returns c =
    front_stores _ _ _ _ _ _ _ _ c.requires c.flags_of-flags.ensures.0 (c.from-version.ensures ∙ c.version.ensures) (omega (arith, c.from-version.ensures)) c.put_signature.ensures c.put.ensures c.put-2.ensures c.put-3.ensures c.put_address.ensures c.put-4.ensures
