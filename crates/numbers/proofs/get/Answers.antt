-- The bytes, and zeros behind them, say the number.
use mathlib.Core.Path.{◌≡◌, ◌∙◌}
use borrow.Author.Rules.{rules}
use Rattle.rules.specs.Bytes.{number_at}
use Rattle.numbers.proofs.Widths.{number_read, number_small}
use Rattle.numbers.proofs.get.Goals as goal

pub returns : goal.returns
returns g c =
    let a = c.args in
    let n = g.row.N in
    let value : c.from_le_bytes.result ≡ number_at n a.bytes.now a.at =
    c.from_le_bytes.ensures ∙ number_read a.bytes.now _ a.at n c.requires.width c.requires.inside c.copy_from_slice.ensures.after in
    (value, rw value (number_small n a.bytes.now a.at (λ k. search rules) c.requires.inside))
