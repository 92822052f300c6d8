-- Zeros take the place of as many bytes.
use mathlib.Core.Path.{sym, ◌∙◌}
use native.Mathlib.Omega.{arith}
use lib.ListN.{length-replicate}
use Rattle.rules.proofs.Bytes.{slice-part, length_part, put_mid-laid}
use Rattle.runs.proofs.put_zeros.Goals as goal

pub returns : goal.returns
returns c =
    let a = c.args in
    put_mid-laid _ _ _ a.at _
    (c.fill.ensures.after (λ y e. e) ∙ rw (slice-part a.bytes.now a.at a.n, length_part a.bytes.now a.at a.n (omega arith)))
    (sym (length-replicate a.n 0))
