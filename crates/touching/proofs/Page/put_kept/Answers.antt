-- The bytes below the size are the page's, and those past it zeros.
use Rattle.touching.proofs.Copies.{copied}
use Rattle.touching.proofs.Page.put_kept.Goals as goal

pub returns : goal.returns
returns c =
    let a = c.args in
    let p = a.self.now in
    copied p.write.now.original.now _ _ p.address p.size a.from a.n (rw c.saturating_sub.ensures at c.min-keep.ensures) a.to _ c.requires.0.room c.put_parent.ensures c.put_zeros.ensures
