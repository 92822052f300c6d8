-- What the write leaves of the copy stands ahead of its run and behind it.
use mathlib.Core.Path.{refl, ◌∙◌}
use native.Mathlib.Omega.{arith}
use Rattle.touching.proofs.Copies.{source-behind, page-laid}
use Rattle.touching.proofs.Touches.{over_run}
use Rattle.touching.proofs.Page.put_around.Goals as goal

pub put_kept-requires-2 : goal.put_kept-requires-2
put_kept-requires-2 c =
    let p = c.args.self.now in
    let v = p.shares in
    let r = c.run-run.ensures in
    (source-behind p.write.now.original.now p.address p.size c.requires _ _ _ refl r.in-page c.put_kept.ensures c.put_run.ensures, omega (arith, v.below, v.short, v.small, r.in-page))

pub returns : goal.returns
returns c =
    let p = c.args.self.now in
    let r = c.run-run.ensures in
    page-laid p.write.now.original.now p.address p.size c.requires _ _ _ refl r.in-page c.put_kept.ensures c.put_run.ensures c.put_kept-2.ensures
    ∙ over_run _ c.args.to r
