-- What a commit stores, and what has to hold for it to be stored.
use Rattle.std.specs.Prelude.{◌≡◌, List, ℕ, ◌+◌, ◌-◌, ◌≤◌, length}
use Rattle.rules.specs.Bytes.{part, number_bytes, laid}
use Rattle.rules.specs.Checksum.{checksum}
use Rattle.rules.specs.Layout.{limit, entry_limit, revision_limit, touch_limit, name_limit, comment_limit, committed_end, index_of, name_at}
use Rattle.rules.specs.View.{own_pages}
use Rattle.rules.specs.Session.{merged_count, record_stored, setting_stored}
use Rattle.rules.specs.declared.Form.{Form}
use Rattle.rules.specs.declared.Setting.{Setting}
use Rattle.rules.specs.declared.Record.{Record}
use Rattle.rules.specs.declared.State.{State}
use Rattle.layout.specs.Paged.{Paged}
use Rattle.sessions.specs.Sound.{SoundSession}

-- Sizes so small that no sum of them wraps.
pub record Small (s : Setting) (st : State) (entries name comment : ℕ) : Type 0 where
  pub paged : Paged s.form
  pub end : st.end ≤ limit
  pub touched : st.n ≤ touch_limit
  pub count : s.count ≤ revision_limit
  pub few : entries ≤ entry_limit
  pub named : name ≤ name_limit
  pub commented : comment ≤ comment_limit

-- A session whose rows have passed, and the record that its commit stores, with room for it and for the new whole history.
pub record Standing (history : List ℕ) (s : Setting) (st : State) (parent r : Record) : Type 0 where
  pub session : SoundSession history s st parent
  pub stored : r ≡ record_stored s st (merged_count (index_of history s.form parent) (own_pages st)) r.name r.comment
  pub few : r.entries ≤ entry_limit
  pub room : committed_end (setting_stored s r) ≤ length history

-- A commit whose rows have all passed.
pub record Committable (history : List ℕ) (s : Setting) (st : State) (parent r : Record) (time name comment : List ℕ) : Type 0 where
  pub standing : Standing history s st parent r
  pub timed : length time ≡ 16
  pub named : r.name ≡ length name
  pub commented : r.comment ≡ length comment

-- The history with name and comment behind a record's entries, and behind them the checksum of all that stands of the record by then.
unfoldable pub texts_stored : Form → Record → List ℕ → List ℕ → List ℕ → List ℕ
texts_stored f r name comment h =
    let at = name_at f r in
    let end = at + length name + length comment in
    let texts = laid (laid h at name) (at + length name) comment in
    laid texts end (number_bytes 4 (checksum (part texts r.address (end - r.address))))
