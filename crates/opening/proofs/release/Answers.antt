-- A refusal leaves history and session; else the lock is cleared and the session ends.
use mathlib.Core.Path.{refl, sym}
use Rattle.rules.proofs.Headers.{header_facts}
use Rattle.rules.proofs.Refusals.{refused, handed_on}
use Rattle.opening.proofs.Locking.{release_refused, release-accepted}
use Rattle.opening.proofs.release.Goals as goal

pub returns-in_err-header_rows : goal.returns-in_err-header_rows
returns-in_err-header_rows c = rw (handed_on _ _ c.from_residual.ensures.1) (release_refused _ _ _ c.in_err-header_rows.ensures (refused _))

pub unlock-requires : goal.unlock-requires
unlock-requires c = (header_facts _ (sym c.in_ok-header_rows.ensures)).front

pub returns : goal.returns
returns c = release-accepted _ _ c.in_ok-header_rows.ensures refl c.unlock.ensures c.ended.ensures
