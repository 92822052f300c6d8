-- A lent slice that is a part of another, and no copy of it.
use Rattle.std.specs.Prelude.{◌≡◌, List, ℕ, ◌+◌}
use Rattle.std.specs.Borrow.{Bor}
use Rattle.rules.specs.Bytes.{part}

-- It holds the n bytes from an address of the whole, and it points there: into the same block, so many bytes behind its start.
pub record PartAt (whole : Bor (List ℕ)) (at n : ℕ) (r : Bor (List ℕ)) : Type 0 where
  pub holds : r.now ≡ part whole.now at n
  pub block : r.ref_ptr.0 ≡ whole.ref_ptr.0
  pub start : r.ref_ptr.1 ≡ whole.ref_ptr.1 + at
