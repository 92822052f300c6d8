-- A record that rows 7 and 8 have passed: the numbers that later steps rest on.
use Rattle.std.specs.Prelude.{◌≡◌, true, cond, List, ℕ, ◌+◌, ◌≤◌, eqb}
use Rattle.rules.specs.Layout.{limit, entry_limit, entry_sum_at, entry_width, entries_width, front_width, sums_stand, index_of, record_of}
use Rattle.rules.specs.Rows.{entries_right}
use Rattle.rules.specs.declared.Setting.{Setting}
use Rattle.rules.specs.declared.Record.{Record}
use Rattle.rules.specs.declared.Index.{Index}
use Rattle.whole.specs.Sound.{Sound}

-- Where the index stands. Where there are no entries, as for revision 0, any address will do, and 0 lies in every history.
unfoldable pub index_in : Setting → Record → Index
index_in s r = record {
  form = s.form;
  at = cond (eqb r.entries 0) 0 (r.address + front_width s.form);
  entries = r.entries;
}

pub record SoundRecord (history : List ℕ) (s : Setting) (r : Record) : Type 0 where
  pub few : r.entries ≤ entry_limit
  pub grown : s.original ≤ r.logical
  pub small : r.logical ≤ limit
  pub below : r.address ≤ s.address
  pub inside : (index_in s r).at + entries_width s.form r.entries ≤ s.address
  pub right : entries_right s r 0 (index_of history s.form r) ≡ true
  pub summed : sums_stand (entry_width s.form) (entry_sum_at s.form) history (index_in s r).at r.entries ≡ true

-- Revision k of a history whose rows have passed, and its record.
pub record Standing (history : List ℕ) (s : Setting) (k : ℕ) (r : Record) : Type 0 where
  pub sound : Sound history s
  pub known : k ≤ s.count
  pub found : r ≡ record_of history s k
  pub right : SoundRecord history s r
