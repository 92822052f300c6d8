-- A session that its rows have passed, beside its history and its parent's record: what later steps rest on.
use Rattle.std.specs.Prelude.{◌≡◌, true, List, ℕ, ◌%◌, ◌≤◌, ◌<◌, length, get_or}
use Rattle.rules.specs.Layout.{limit, revision_limit, touch_limit, committed_end}
use Rattle.rules.specs.Orders.{Distinct}
use Rattle.rules.specs.View.{own_pages, own_address}
use Rattle.rules.specs.declared.Setting.{Setting}
use Rattle.rules.specs.declared.Record.{Record}
use Rattle.rules.specs.declared.State.{State}
use Rattle.records.specs.Sound.{Standing}

pub record SoundSession (history : List ℕ) (s : Setting) (st : State) (r : Record) : Type 0 where
  -- Its parent, and that it is no shorter than its parent.
  pub parent : Standing history s st.parent r
  pub grown : r.logical ≤ st.size
  -- Its numbers.
  pub locked : s.lock ≡ true
  pub end : st.end ≡ committed_end s
  pub few : s.count < revision_limit
  pub touched : st.n ≤ touch_limit
  pub small : st.size ≤ limit
  pub room : own_address s st st.n ≤ length history
  -- Its own pages.
  pub multiple : (k : ℕ) → k < length (own_pages st) → get_or (own_pages st) k 0 % s.form.page ≡ 0
  pub below : (k : ℕ) → k < length (own_pages st) → get_or (own_pages st) k 0 < st.size
  pub differ : Distinct (own_pages st)
