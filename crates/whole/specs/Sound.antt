-- A history that rows 1, 2, 3 and 5 have passed, with what it says of itself: the numbers that later steps rest on.
use Rattle.std.specs.Prelude.{◌≡◌, true, List, ℕ, ◌+◌, ◌≤◌, length}
use Rattle.rules.specs.Layout.{page_allowed, limit, revision_limit, header_width, setting_of, committed_end, whole_size, header_end}
use Rattle.rules.specs.declared.Setting.{Setting}
use Rattle.layout.specs.Paged.{Paged}

pub record Sound (history : List ℕ) (s : Setting) : Type 0 where
  pub setting : s ≡ setting_of history
  pub front : header_width ≤ length history
  pub short : length history ≤ limit
  -- The page size.
  pub allowed : page_allowed s.form.page ≡ true
  pub paged : Paged s.form
  -- The whole history, which ends within the buffer, with all of its bytes.
  pub behind : header_end s.form ≤ s.address
  pub ends : committed_end s ≤ length history
  pub inside : s.address + s.size ≤ length history
  pub sized : s.size ≡ whole_size s.count
  pub few : s.count ≤ revision_limit
  pub original : s.original ≤ limit
