-- What a history tells its user beyond document 01's calls: what it says of itself, and what a revision's record says.
use Rattle.std.specs.Prelude.{ℕ, zero, suc, false, List}
use Rattle.rules.specs.Layout.{setting_of, committed_end, record_of, time_at, name_at, comment_at, user_at}
use Rattle.rules.specs.Calls.{accepted, history_rows, asked, browse_rows}
use Rattle.rules.specs.declared.Form.{Form}
use Rattle.rules.specs.declared.Setting.{Setting}
use Rattle.rules.specs.declared.Record.{Record}
use Rattle.rules.specs.declared.Part.{Part}
use Rattle.rules.specs.declared.SettingTold.{SettingTold}
use Rattle.rules.specs.declared.RecordTold.{RecordTold}

-- ---- The setting: rows 1, 2, 3, 5

abbrev pub setting_told : Setting → SettingTold
setting_told s = record {
  number = 0;
  page = s.form.page;
  original = s.original;
  revisions = s.count;
  end = committed_end s;
  lock = s.lock;
  branching = s.branching;
}

abbrev pub setting_untold : ℕ → SettingTold
setting_untold number = record { number = number; page = 0; original = 0; revisions = 0; end = 0; lock = false; branching = false }

unfoldable pub tell_setting : List ℕ → SettingTold
tell_setting history =
    let s = setting_of history in
    let number = history_rows history s in
    accepted number (setting_told s) (setting_untold number)

-- ---- A revision's record: rows 1, 2, 3, 5, 6, 7, 8, as browsing

abbrev pub nowhere : Part
nowhere = record { offset = 0; length = 0 }

-- "Revision 0 is the original; it has no record": its length alone is told.
unfoldable pub record_told : List ℕ → Form → ℕ → Record → RecordTold
record_told history f zero r = record {
  number = 0;
  revision = 0;
  parent = 0;
  logical = r.logical;
  user = 0;
  entries = 0;
  time = nowhere;
  name = nowhere;
  comment = nowhere;
}
record_told history f (suc k) r = record {
  number = 0;
  revision = suc k;
  parent = r.parent;
  logical = r.logical;
  user = user_at f history r.address;
  entries = r.entries;
  time = record { offset = time_at r; length = 16 };
  name = record { offset = name_at f r; length = r.name };
  comment = record { offset = comment_at f r; length = r.comment };
}

abbrev pub record_untold : ℕ → RecordTold
record_untold number = record {
  number = number;
  revision = 0;
  parent = 0;
  logical = 0;
  user = 0;
  entries = 0;
  time = nowhere;
  name = nowhere;
  comment = nowhere;
}

unfoldable pub tell_record : List ℕ → ℕ → RecordTold
tell_record history revision =
    let s = setting_of history in
    let k = asked s revision in
    let number = browse_rows history revision in
    accepted number (record_told history s.form k (record_of history s k)) (record_untold number)
