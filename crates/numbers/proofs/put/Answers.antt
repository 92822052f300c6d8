-- The lowest bytes of all eight take the place of as many.
use mathlib.Core.Path.{sym, ap, ◌∙◌}
use native.Mathlib.Nat.{div-one}
use lib.ListN.{take}
use Rattle.rules.proofs.Bytes.{length-number_bytes, put_mid-laid}
use Rattle.numbers.proofs.Widths.{number_written}
use Rattle.numbers.proofs.put.Goals as goal

pub returns : goal.returns
returns g c =
    let a = c.args in
    let n = g.row.N in
    put_mid-laid _ _ _ a.at n
    (c.copy_from_slice.ensures.after ∙ ap (take n) c.to_le_bytes.ensures ∙ number_written 0 8 n a.value c.requires.width ∙ rw div-one)
    (sym (length-number_bytes n a.value))
