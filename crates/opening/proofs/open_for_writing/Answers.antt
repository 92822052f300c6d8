-- Judged once; then the header with the lock set is all that is stored.
use mathlib.Core.Path.{refl}
use Rattle.rules.proofs.Refusals.{refused, handed_on}
use Rattle.opening.proofs.Locking.{open_refused, open-accepted}
use Rattle.opening.proofs.open_for_writing.Goals as goal

pub returns-in_err-parent : goal.returns-in_err-parent
returns-in_err-parent c = rw (handed_on _ _ c.from_residual.ensures.1) (open_refused _ _ _ _ c.in_err-parent.ensures.number (refused _) refl)

pub returns : goal.returns
returns c =
    let parent = c.in_ok-parent.ensures in
    open-accepted _ _ _ parent.number parent.standing c.asked-k.ensures c.with_lock.ensures c.put_header.ensures c.opened.ensures
