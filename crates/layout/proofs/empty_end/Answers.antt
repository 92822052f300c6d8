-- The header's end is near the header.
use native.Mathlib.Omega.{arith}
use Rattle.rules.specs.Layout.{header_width}
use Rattle.rules.proofs.Places.{end-near}
use Rattle.layout.proofs.empty_end.Goals as goal

pub end_of-requires : goal.end_of-requires
end_of-requires c =
    let a = c.args in
    let p = c.requires in
    (p, omega (arith, c.header_end-at.ensures, end-near a.form 0 header_width, p.most), omega (arith, c.whole_size.ensures))
