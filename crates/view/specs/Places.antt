-- Where a walk along an index stands next, and a page laid over bytes.
use Rattle.std.specs.Prelude.{◌≡◌, cond, List, ℕ, ◌+◌, ◌%◌, ◌≤◌, ◌<◌, eqb, get_or}
use Rattle.rules.specs.Bytes.{byte_at}
use Rattle.rules.specs.Layout.{entries_in}
use Rattle.rules.specs.View.{logicals, page_of}
use Rattle.rules.specs.declared.Index.{Index}

-- The address of the page at a place, or past the last the end.
pub record NextStored (history : List ℕ) (x : Index) (place end next : ℕ) : Type 0 where
  pub there : place < x.entries → next ≡ get_or (logicals (entries_in history x)) place 0
  pub none : x.entries ≤ place → next ≡ end

-- Byte j of a buffer that has the bytes from an offset on, with a page laid over it.
unfoldable pub own_over : List ℕ → List ℕ → ℕ → ℕ → ℕ → ℕ → ℕ → ℕ
own_over bytes history p address stored from j = cond (eqb address (page_of p (from + j))) (byte_at history (stored + (from + j) % p)) (byte_at bytes j)
