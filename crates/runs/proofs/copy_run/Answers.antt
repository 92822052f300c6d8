-- The part lies below the address, where the split leaves it whole.
use mathlib.Core.Path.{◌≡◌, sym}
use mathlib.Core.List.{append_assoc}
use Prim.Native.Nat.{◌+◌}
use native.Mathlib.Nat.{zero-add}
use native.Mathlib.Omega.{arith}
use lib.ListN.{take, drop}
use lib.Seq.{drop-drop}
use Rattle.rules.specs.Bytes.{part, laid}
use Rattle.rules.proofs.Bytes.{slice-part, length_part, part-part}
use Rattle.runs.proofs.copy_run.Goals as goal

pub returns : goal.returns
unfolding laid
returns c =
    let a = c.args in
    let bytes = a.bytes.now in
    let split = c.split_at_mut-low.ensures in
    let below : part (take a.to bytes) a.from a.n ≡ part bytes a.from a.n = rw zero-add at (part-part bytes 0 a.to a.from a.n (omega arith)) in
    rw (split.back, c.copy_from_slice.ensures.after, split.front, slice-part (take a.to bytes) a.from a.n, below, length_part bytes a.from a.n (omega arith), drop-drop)
    (sym (append_assoc (take a.to bytes) (part bytes a.from a.n) (drop (a.to + a.n) bytes)))
