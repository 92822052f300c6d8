-- What the index is merged from lies ahead of the front that was laid.
use mathlib.Core.Path.{ap}
use Prim.Native.Nat.{ℕ, ◌+◌}
use native.Mathlib.Omega.{arith}
use Rattle.committing.proofs.Layings.{texts-room, mergeable, indexed-laid}
use Rattle.committing.proofs.put_indexed.Goals as goal

pub overflow_add-to : goal.overflow_add-to
overflow_add-to c =
    let q = c.requires.0 in
    omega (arith, c.front_width.ensures, texts-room q, q.session.parent.sound.short)

pub put_front-requires : goal.put_front-requires
put_front-requires c =
    let q = c.requires.0 in
    (omega (arith, texts-room q), c.requires.1, omega (arith, q.session.parent.sound.short))

pub put_merged-requires : goal.put_merged-requires
put_merged-requires c =
    let q = c.requires.0 in
    let to = ap (λ (n : ℕ). c.args.p.record.address + n) c.front_width.ensures in
    mergeable q _ c.requires.1 _ _ c.put_front.ensures c.index-x.ensures to (omega (arith, q.session.touched))

pub returns : goal.returns
returns c =
    let q = c.requires.0 in
    let to = ap (λ (n : ℕ). c.args.p.record.address + n) c.front_width.ensures in
    indexed-laid q _ c.requires.1 _ _ c.put_front.ensures _ c.index-x.ensures to (omega (arith, q.session.touched)) c.put_merged.ensures
