-- The own pages from one on are laid over the revision's bytes; at the end that is all of them.
use mathlib.Core.Path.{refl}
use Prim.Native.Nat.{◌-◌}
use native.Mathlib.Omega.{arith}
use Rattle.view.proofs.Overlay.{over-start, over_turn}
use Rattle.view.proofs.put_view.Goals as goal

pub loop-mine-init : goal.loop-mine-init
loop-mine-init c = over-start _ _ c.args.v c.args.from _ c.put_revision.ensures

pub loop-mine-preserved : goal.loop-mine-preserved
loop-mine-preserved c = over_turn c.loop-mine.invariant (c.loop-mine.mine - 1) (omega arith) refl c.put_own.ensures
