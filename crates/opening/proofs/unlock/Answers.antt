-- A history that is not locked is left as it is.
use Rattle.opening.proofs.Locking.{unlocked, unlock_stores}
use Rattle.opening.proofs.unlock.Goals as goal

pub returns-then-not-s : goal.returns-then-not-s
returns-then-not-s c = unlocked _ c.setting_with-s.ensures c.if-not-s.true

pub returns : goal.returns
returns c = unlock_stores _ c.setting_with-s.ensures c.if-not-s.false c.with_lock.ensures c.put_header.ensures
