-- An end past the buffer is told by its parts, and else worked out.
use mathlib.Core.Bool.{false≢true}
use native.Mathlib.Omega.{arith}
use Rattle.rules.proofs.Places.{end-behind}
use Rattle.whole.proofs.lies.Goals as goal

pub returns-then-room-s : goal.returns-then-room-s
returns-then-room-s c =
    let s = c.args.s in
    (λ e. absurd (false≢true e), λ e w. omega (arith, w.ends, end-behind s.form s.address s.size))

pub returns-then-room-s-2 : goal.returns-then-room-s-2
returns-then-room-s-2 c =
    let s = c.args.s in
    (λ e. absurd (false≢true e), λ e w. omega (arith, w.ends, end-behind s.form s.address s.size))
