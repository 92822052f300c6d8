-- Document 01, "Refusal numbers", "Order": each call as one definition from all its inputs to all its outputs, which are the
-- number, the session handed back and every lent byte at exit.
use Rattle.std.specs.Prelude.{ℕ, zero, suc, ◌+◌, ◌-◌, min, Bool, true, false, cond, List, [], ◌∷◌, ltb, eqb, length, Result, Ok, Err}
use Rattle.rules.specs.Refusals.{number_of}
use Rattle.rules.specs.Bytes.{number_at}
use Rattle.rules.specs.Layout.{
  entry_at,
  entry_sum_at,
  entries_width,
  entry_count_at,
  front_width,
  bare_width,
  header_width,
  setting_of,
  committed_end,
  empty_end,
  record_of,
  index_of,
}
use Rattle.rules.specs.View.{has_page, entry_of, own_pages, own_address, revision_bytes, session_bytes, pages_shared}
use Rattle.rules.specs.Session.{
  Held,
  ended,
  created_form,
  created,
  locked,
  opened,
  released,
  written,
  touching,
  merged_index,
  record_stored,
  setting_stored,
  committed,
}
use Rattle.rules.specs.Rows.{
  length_wrong,
  header_wrong,
  header_sum_wrong,
  original_wrong,
  whole_wrong,
  newest,
  revision_unknown,
  record_wrong,
  record_sum_wrong,
  page_sum_wrong,
  page_wrong,
  pages_wrong,
  read_outside,
  look_up_outside,
  write_outside,
  lock_set,
  not_newest,
  session_wrong,
  size_below_parent,
  too_many,
  no_room,
  texts_wrong,
  creation_wrong,
  full,
  write_too_far,
  not_in_original,
}
use Rattle.rules.specs.declared.Form.{Form}
use Rattle.rules.specs.declared.Setting.{Setting}
use Rattle.rules.specs.declared.Entry.{Entry}
use Rattle.rules.specs.declared.State.{State}
use Rattle.rules.specs.declared.Refusal.{Refusal}
use Rattle.rules.specs.declared.Found.{Found}
use Rattle.rules.specs.declared.Checked.{Checked}
use Rattle.rules.specs.declared.Browsed.{Browsed}
use Rattle.rules.specs.declared.Step.{Step}

-- ---- Rows in their order

infixr 20 ◌then◌
-- A row's number where the row holds, else 0.
unfoldable pub row : ℕ → Bool → ℕ
row number true = number
row number false = 0

-- "A refusal is given exactly when its row holds and no row ahead of it in the call's order does; otherwise the call is
-- accepted": the first number that is not 0.
unfoldable pub ◌then◌ : ℕ → ℕ → ℕ
zero then rest = rest
suc n then rest = suc n

-- "Every refusal .. changes no lent byte": what a call leaves, by its number.
abbrev pub accepted {ℓ} : {A : Type ℓ} → ℕ → A → A → A
accepted zero new old = new
accepted (suc n) new old = old

-- What a call answers and leaves: its number and the lent bytes; of a session call the session too.
pub record Reply : Type 0 where
  pub number : ℕ
  pub bytes : List ℕ

pub record Outcome : Type 0 where
  pub number : ℕ
  pub session : State
  pub bytes : List ℕ

-- What a session call answers and leaves: the session that it hands back, and where it is refused the one that stays.
abbrev pub outcome : State → Result State Refusal → List ℕ → Outcome
outcome st (Ok after) bytes = record { number = 0; session = after; bytes = bytes }
outcome st (Err refusal) bytes = record { number = number_of refusal; session = st; bytes = bytes }

-- ---- The rows that calls share

-- Rows 1, 2, 3.
unfoldable pub header_rows : List ℕ → ℕ
header_rows history =
    row 1 (length_wrong header_width (length history)) then row 2 (header_wrong history) then row 3 (header_sum_wrong history)

-- Rows 1, 2, 3, 5.
unfoldable pub history_rows : List ℕ → Setting → ℕ
history_rows history s = header_rows history then row 5 (whole_wrong history s)

-- Rows 1 to 5.
unfoldable pub both_rows : List ℕ → List ℕ → Setting → ℕ
both_rows original history s =
    header_rows history then row 4 (original_wrong (length original) s) then row 5 (whole_wrong history s)

-- Rows 7, 8 of a revision. "Revision 0 has no record, so 7 and 8 don't arise for it."
unfoldable pub record_rows : List ℕ → Setting → ℕ → ℕ
record_rows history s zero = 0
record_rows history s (suc k) =
    let r = record_of history s (suc k) in
    row 7 (record_wrong history s (suc k) r) then row 8 (record_sum_wrong history s.form r)

-- Rows 7, 8 of m revisions from k on, record after record.
unfoldable pub records_rows : List ℕ → Setting → ℕ → ℕ → ℕ
records_rows history s k zero = 0
records_rows history s k (suc m) = let rest = records_rows history s (suc k) m in record_rows history s k then rest

-- Rows 13, 7, 8 of a session, and directly after 8 the last condition of row 13.
unfoldable pub session_rows : List ℕ → Setting → State → ℕ
session_rows history s st =
    row 13 (session_wrong (length history) s st)
    then record_rows history s st.parent
    then row 13 (size_below_parent st (record_of history s st.parent))

-- "Revision number 2^64 - 1 asks for the newest, which is 0 where none was committed."
unfoldable pub asked : Setting → ℕ → ℕ
asked s revision = cond (eqb revision newest) s.count revision

-- The index of a revision, and of a session's parent.
abbrev pub revision_index : List ℕ → Setting → ℕ → List Entry
revision_index history s k = index_of history s.form (record_of history s k)

-- Rows 1 to 8.
unfoldable pub revision_rows : List ℕ → List ℕ → ℕ → ℕ
revision_rows original history revision =
    let s = setting_of history in
    both_rows original history s then row 6 (revision_unknown s revision) then record_rows history s (asked s revision)

-- Rows 1 to 5, 13, 7, 8.
unfoldable pub begin_rows : State → List ℕ → List ℕ → ℕ
begin_rows st original history =
    let s = setting_of history in
    both_rows original history s then session_rows history s st

-- Rows 1, 2, 3, 5, 13, 7, 8.
unfoldable pub held_rows : State → List ℕ → ℕ
held_rows st history = let s = setting_of history in history_rows history s then session_rows history s st

-- ---- "Creation 1, 17."

unfoldable pub create_rows : ℕ → ℕ → ℕ → ℕ
create_rows length original page =
    row 1 (length_wrong (empty_end (created_form page)) length) then row 17 (creation_wrong original page)

unfoldable pub create : List ℕ → ℕ → ℕ → Bool → Reply
create history original page branching =
    let number = create_rows (length history) original page in
    record { number = number; bytes = accepted number (created history original page branching) history }

-- ---- "Read of a revision 1 to 8, 10, 9."

unfoldable pub read_rows : List ℕ → List ℕ → ℕ → ℕ → ℕ → ℕ
read_rows original history revision at n =
    let s = setting_of history in
    let k = asked s revision in
    revision_rows original history revision
    then row 10 (read_outside (record_of history s k).logical at n)
    then row 9 (pages_wrong [] history s.form.page (revision_index history s k) (pages_shared s.form.page at n))

-- What an accepted read gives.
unfoldable pub read_bytes : List ℕ → List ℕ → ℕ → ℕ → ℕ → List ℕ
read_bytes original history revision at n =
    let s = setting_of history in
    revision_bytes original history s.form.page (revision_index history s (asked s revision)) at n

unfoldable pub read : List ℕ → List ℕ → ℕ → ℕ → List ℕ → Reply
read original history revision at out =
    let number = read_rows original history revision at (length out) in
    record { number = number; bytes = accepted number (read_bytes original history revision at (length out)) out }

-- ---- "Look-up 1 to 8, 10, 20, 9."

-- "of length min(p, logical size - address)"
abbrev pub found_length : ℕ → ℕ → ℕ → ℕ
found_length p size at = min p (size - at)

-- Rows 10, 20, 9 of a page, by the index and the logical size of its revision.
unfoldable pub page_rows : List ℕ → List ℕ → ℕ → List Entry → ℕ → ℕ → ℕ
page_rows original history p index size at =
    row 10 (look_up_outside p size at)
    then row 20 (not_in_original (length original) index at (found_length p size at))
    then row 9 (page_wrong history p index at)

-- "It hands back the page as a part of the original or of the history": where that part lies.
unfoldable pub found_page : ℕ → List Entry → ℕ → ℕ → Found
found_page p index size at =
    let n = found_length p size at in
    cond (has_page index at) (record { number = 0; source = 1; offset = (entry_of index at).physical; length = n })
    (record { number = 0; source = 0; offset = at; length = n })

abbrev pub not_found : ℕ → Found
not_found number = record { number = number; source = 0; offset = 0; length = 0 }

unfoldable pub look_up : List ℕ → List ℕ → ℕ → ℕ → Found
look_up original history revision at =
    let s = setting_of history in
    let k = asked s revision in
    let index = revision_index history s k in
    let size = (record_of history s k).logical in
    let number = revision_rows original history revision then page_rows original history s.form.page index size at in
    accepted number (found_page s.form.page index size at) (not_found number)

-- ---- "Open for writing 1 to 6, 11, 12, 18, 7, 8."

unfoldable pub open_rows : List ℕ → List ℕ → ℕ → ℕ
open_rows original history revision =
    let s = setting_of history in
    let k = asked s revision in
    both_rows original history s
    then row 6 (revision_unknown s revision)
    then row 11 (lock_set s)
    then row 12 (not_newest s k)
    then row 18 (full s)
    then record_rows history s k

-- "a refused open, hand back the ended session".
unfoldable pub open_for_writing : List ℕ → List ℕ → ℕ → Outcome
open_for_writing original history revision =
    let s = setting_of history in
    let k = asked s revision in
    let number = open_rows original history revision in
    record {
      number = number;
      session = accepted number (opened s k (record_of history s k).logical) ended;
      bytes = accepted number (locked history s) history;
    }

-- ---- "Session read 1 to 5, 13, 7, 8, 10, 9."

unfoldable pub session_read_rows : State → List ℕ → List ℕ → ℕ → ℕ → ℕ
session_read_rows st original history at n =
    let s = setting_of history in
    let index = revision_index history s st.parent in
    begin_rows st original history
    then row 10 (read_outside st.size at n)
    then row 9 (pages_wrong (own_pages st) history s.form.page index (pages_shared s.form.page at n))

unfoldable pub session_read : State → List ℕ → List ℕ → ℕ → List ℕ → Outcome
session_read st original history at out =
    let s = setting_of history in
    let index = revision_index history s st.parent in
    let number = session_read_rows st original history at (length out) in
    record {
      number = number;
      session = st;
      bytes = accepted number (session_bytes original history s st index at (length out)) out;
    }

-- ---- "Write 1 to 5, 13, 7, 8, 10, 19, 14, 15, 9."

unfoldable pub write_rows : State → List ℕ → List ℕ → ℕ → ℕ → ℕ
write_rows st original history at n =
    let s = setting_of history in
    let index = revision_index history s st.parent in
    let pages = pages_shared s.form.page at n in
    let own = touching (own_pages st) pages in
    begin_rows st original history
    then row 10 (write_outside st.size at)
    then row 19 (write_too_far at n)
    then row 14 (too_many index own)
    then row 15 (no_room (length history) (own_address s st (length own)))
    then row 9 (pages_wrong (own_pages st) history s.form.page index pages)

unfoldable pub write : State → List ℕ → List ℕ → ℕ → List ℕ → Outcome
write st original history at bytes =
    let s = setting_of history in
    let index = revision_index history s st.parent in
    let number = write_rows st original history at (length bytes) in
    let held : Held = record { history = history; session = st } in
    let after = written original s index at bytes held in
    record { number = number; session = accepted number after.session st; bytes = accepted number after.history history }

-- ---- "Commit 1, 2, 3, 5, 13, 7, 8, 14, 16, 15."

unfoldable pub commit_rows : State → List ℕ → List ℕ → List ℕ → List ℕ → ℕ
commit_rows st history time name comment =
    let s = setting_of history in
    let index = revision_index history s st.parent in
    let r = record_stored s st (length (merged_index history s st index)) (length name) (length comment) in
    held_rows st history
    then row 14 (too_many index (own_pages st))
    then row 16 (texts_wrong time name comment)
    then row 15 (no_room (length history) (committed_end (setting_stored s r)))

unfoldable pub commit : State → List ℕ → List ℕ → ℕ → List ℕ → List ℕ → Outcome
commit st history time user name comment =
    let s = setting_of history in
    let index = revision_index history s st.parent in
    let number = commit_rows st history time name comment in
    record {
      number = number;
      session = accepted number ended st;
      bytes = accepted number (committed history s st (merged_index history s st index) time user name comment) history;
    }

-- ---- "Release 1, 2, 3."

unfoldable pub release : State → List ℕ → Outcome
release st history =
    let number = header_rows history in
    record {
      number = number;
      session = accepted number ended st;
      bytes = accepted number (released history (setting_of history)) history;
    }

-- ---- "Browsing 1, 2, 3, 5, 6, 7, 8."

unfoldable pub browse_rows : List ℕ → ℕ → ℕ
browse_rows history revision =
    let s = setting_of history in
    history_rows history s then row 6 (revision_unknown s revision) then record_rows history s (asked s revision)

-- The record that a browsing reader is lent; of revision 0, none.
unfoldable pub browse : List ℕ → ℕ → Browsed
browse history revision =
    let s = setting_of history in
    let r = record_of history s (asked s revision) in
    let number = browse_rows history revision in
    accepted number (record { number = 0; offset = r.address; length = r.size })
    (record { number = number; offset = 0; length = 0 })

-- "A browsing reader .. gives one index entry at a time, then the end at every further step. .. A step over lent bytes that are
-- neither empty nor at least 76 + 24 x their own entry count long gives 7; over no bytes it gives the end."
abbrev pub step_end : ℕ → Step
step_end kind = record { kind = kind; logical = 0; physical = 0; page_sum = 0; entry_sum = 0 }

-- The form of lent bytes. They are a record's, and no width or place in a record goes by the page size.
abbrev pub lent_form : Form
lent_form = record { page = 0 }

abbrev pub step_entry : List ℕ → ℕ → Step
step_entry bytes at = let e = entry_at lent_form bytes at in record {
  kind = 0;
  logical = e.logical;
  physical = e.physical;
  page_sum = e.checksum;
  entry_sum = number_at 4 bytes (at + entry_sum_at lent_form);
}

unfoldable pub browse_step : List ℕ → ℕ → Step
browse_step bytes place =
    let f = lent_form in
    let entries = number_at 8 bytes (entry_count_at f) in
    cond (eqb (length bytes) 0) (step_end 1)
    (cond (ltb (length bytes) (bare_width f + entries_width f entries)) (step_end 7)
    (cond (ltb place entries) (step_entry bytes (front_width f + entries_width f place)) (step_end 1)))

-- The reader's next place: one further behind an entry, else where it is.
unfoldable pub browse_next : List ℕ → ℕ → ℕ
browse_next bytes place = cond (eqb (browse_step bytes place).kind 0) (place + 1) place

-- ---- "The whole check answers the first fault by 1, 2, 3, 5, and then, revision after revision and entry after entry, a record's
-- 7, its 8 and its pages' 9, naming the revision and, for 9, the entry from 0; it stops at the first."

abbrev pub fault : ℕ → ℕ → ℕ → Checked
fault number revision entry = record { number = number; revision = revision; entry = entry }

-- The pages of revision k from entry j on; where none is at fault, what comes after.
unfoldable pub check_entries : List ℕ → ℕ → ℕ → ℕ → List Entry → Checked → Checked
check_entries history p k j [] after = after
check_entries history p k j (e ∷ index) after =
    cond (page_sum_wrong history p e) (fault 9 k j) (check_entries history p k (suc j) index after)

-- The m revisions from k on.
unfoldable pub check_revisions : List ℕ → Setting → ℕ → ℕ → Checked
check_revisions history s k zero = fault 0 0 0
check_revisions history s k (suc m) =
    let number = record_rows history s k in
    let after = check_revisions history s (suc k) m in
    accepted number (check_entries history s.form.page k 0 (revision_index history s k) after) (fault number k 0)

unfoldable pub check : List ℕ → Checked
check history =
    let s = setting_of history in
    let number = history_rows history s in
    accepted number (check_revisions history s 1 s.count) (fault number 0 0)
