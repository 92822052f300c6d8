-- A write into a session whose rows have passed: the rows behind them, and what they leave.
use Rattle.std.specs.Prelude.{List, ℕ, ◌+◌, ◌≤◌, length}
use Rattle.rules.specs.Layout.{limit, touch_limit, index_of}
use Rattle.rules.specs.View.{own_pages, own_address, pages_shared}
use Rattle.rules.specs.Session.{touching}
use Rattle.rules.specs.Rows.{write_outside, write_too_far, too_many, no_room, pages_wrong}
use Rattle.rules.specs.Calls.{row, ◌then◌}
use Rattle.rules.specs.declared.Setting.{Setting}
use Rattle.rules.specs.declared.Record.{Record}
use Rattle.rules.specs.declared.State.{State}
use Rattle.sessions.specs.Sound.{SoundSession}

-- The own pages that would result.
abbrev pub would_own : State → Setting → ℕ → ℕ → List ℕ
would_own st s at n = touching (own_pages st) (pages_shared s.form.page at n)

-- Rows 10, 19, 14, 15, 9, of what the history says of itself and the parent's record.
unfoldable pub rows_behind : State → List ℕ → Setting → Record → ℕ → ℕ → ℕ
rows_behind st history s r at n =
    let index = index_of history s.form r in
    row 10 (write_outside st.size at)
    then row 19 (write_too_far at n)
    then row 14 (too_many index (would_own st s at n))
    then row 15 (no_room (length history) (own_address s st (length (would_own st s at n))))
    then row 9 (pages_wrong (own_pages st) history s.form.page index (pages_shared s.form.page at n))

pub record Writable (history : List ℕ) (s : Setting) (st : State) (r : Record) (at n : ℕ) : Type 0 where
  pub session : SoundSession history s st r
  pub near : at + n ≤ limit
  pub touches : length (would_own st s at n) ≤ touch_limit
  pub room : own_address s st (length (would_own st s at n)) ≤ length history
