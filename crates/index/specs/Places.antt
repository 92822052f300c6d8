-- Places in a list of addresses, and what a search passes.
use Rattle.std.specs.Prelude.{◌≡◌, List, ℕ, ◌+◌, ◌≤◌, ◌<◌, length, get_or}
use Rattle.rules.specs.Layout.{entries_width, entries_in}
use Rattle.rules.specs.Orders.{Rising}
use Rattle.rules.specs.View.{logicals}
use Rattle.rules.specs.declared.Index.{Index}

-- The index lies within the history, and its logical addresses rise. A search by halves rests on this.
pub record Searchable (history : List ℕ) (x : Index) : Type 0 where
  pub within : x.at + entries_width x.form x.entries ≤ length history
  pub rising : Rising (logicals (entries_in history x))

-- The addresses ahead of low are below another, those from high on are not. Where low is high, it is the first that is not.
pub record Parted (xs : List ℕ) (address low high : ℕ) : Type 0 where
  pub ordered : low ≤ high
  pub within : high ≤ length xs
  pub below : (k : ℕ) → k < low → get_or xs k 0 < address
  pub above : (k : ℕ) → high ≤ k → k < length xs → address ≤ get_or xs k 0

-- Up to a place the page does not stand.
abbrev pub Without : List ℕ → ℕ → ℕ → Type 0
Without pages to page = (k : ℕ) → k < to → get_or pages k 0 ≡ page → ⊥
