-- It is the formula, and what is asked for is that it does not wrap.
use mathlib.Core.Path.{◌≡◌}
use Prim.Native.Nat.{◌*◌}
use native.Mathlib.Omega.{arith}
use Rattle.rules.specs.Layout.{entries_width}
use Rattle.layout.proofs.entries_width.Goals as goal

pub overflow_mul-result : goal.overflow_mul-result
unfolding entries_width
overflow_mul-result c =
    let e : c.args.n * c.entry_width.result ≡ entries_width c.args.form c.args.n = rw c.entry_width.ensures in
    omega (arith, e, c.requires)

pub returns : goal.returns
unfolding entries_width
returns c = rw c.entry_width.ensures
