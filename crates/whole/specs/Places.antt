-- Where a whole history may lie, and where a new one can be stored.
use Rattle.std.specs.Prelude.{◌≡◌, List, ℕ, ◌+◌, ◌*◌, ◌%◌, ◌≤◌, ◌<◌, length}
use Rattle.rules.specs.Bytes.{byte_at}
use Rattle.rules.specs.Layout.{limit, revision_limit, committed_end, whole_size, location_width, location_at, header_end}
use Rattle.rules.specs.Session.{setting_stored}
use Rattle.rules.specs.declared.Setting.{Setting}
use Rattle.rules.specs.declared.Record.{Record}
use Rattle.layout.specs.Paged.{Paged, farthest}

-- It lies behind the header and within the buffer, and has room for its count.
pub record Lying (room : ℕ) (s : Setting) : Type 0 where
  pub behind : header_end s.form ≤ s.address
  pub ends : committed_end s ≤ room
  pub sized : whole_size 0 ≤ s.size

-- The lock still stands in the header. The header that clears it is the last that a commit stores, so that until all below it stands
-- the history is what it was.
abbrev pub Locked : List ℕ → Type 0
Locked h = byte_at h 5 % 2 ≡ 1

-- The whole history that stands lies ahead of a record, and there is room for the new one behind the record.
pub record Extensible (h : List ℕ) (s : Setting) (r : Record) : Type 0 where
  pub locked : Locked h
  pub short : length h ≤ limit
  pub paged : Paged s.form
  pub few : s.count < revision_limit
  pub ahead : location_at s 1 + location_width * s.count ≤ r.address
  pub sized : r.size ≤ farthest
  pub room : committed_end (setting_stored s r) ≤ length h
