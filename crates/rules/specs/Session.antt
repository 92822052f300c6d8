-- Document 01, "A session": opening, touching and writing pages, the merged index, the bytes of a commit, and creation.
use Rattle.std.specs.Prelude.{ℕ, suc, ◌+◌, ◌*◌, ◌-◌, min, max, Bool, true, false, cond, List, [], ◌∷◌, ◌++◌, ltb, eqb, length, set, replicate}
use Rattle.rules.specs.Bytes.{part, laid, tabulate}
use Rattle.rules.specs.Checksum.{checksum}
use Rattle.rules.specs.Layout.{
  end_of,
  header_bytes,
  with_lock,
  committed_end,
  whole_size,
  whole_bytes,
  location_width,
  location_bytes,
  location_at,
  header_end,
  record_size,
  record_bytes,
}
use Rattle.rules.specs.View.{place_of, has, own_pages, own_address, session_byte, pages_shared}
use Rattle.rules.specs.declared.Form.{Form}
use Rattle.rules.specs.declared.Setting.{Setting}
use Rattle.rules.specs.declared.Record.{Record}
use Rattle.rules.specs.declared.Entry.{Entry}
use Rattle.rules.specs.declared.State.{State}

-- The ended session, "all zeros, which fits no history".
abbrev pub ended : State
ended = record { end = 0; count = 0; parent = 0; size = 0; n = 0; pages = replicate 256 0 }

-- ---- Creation

-- "Creation is told the original's length, the page size and whether branching is allowed,
abbrev pub created_form : ℕ → Form
created_form page = record { page = page }

abbrev pub created_setting : ℕ → ℕ → Bool → Setting
created_setting original page branching = record {
  form = created_form page;
  original = original;
  address = header_end (created_form page);
  size = whole_size 0;
  count = 0;
  lock = false;
  branching = branching;
}

--  and writes 60 bytes: the header with these, lock clear, and a whole history of count 0."
unfoldable pub created : List ℕ → ℕ → ℕ → Bool → List ℕ
created history original page branching =
    let s = created_setting original page branching in
    laid (laid history s.address (whole_bytes s.form 0 [])) 0 (header_bytes s)

-- ---- Opening

-- "Opening sets the lock bit,
unfoldable pub locked : List ℕ → Setting → List ℕ
locked history s = laid history 0 (header_bytes (with_lock true s))

--  and the session starts as the parent's view."
abbrev pub opened : Setting → ℕ → ℕ → State
opened s parent logical = record {
  end = committed_end s;
  count = s.count;
  parent = parent;
  size = logical;
  n = 0;
  pages = replicate 256 0;
}

-- ---- Release

-- "Release clears the lock"; "Release on an unlocked history changes nothing".
unfoldable pub released : List ℕ → Setting → List ℕ
released history s = cond s.lock (laid history 0 (header_bytes (with_lock false s))) history

-- ---- Writing

-- The history and the session, as a write goes from page to page.
pub record Held : Type 0 where
  pub history : List ℕ
  pub session : State

-- The session with one page more, and with another size.
abbrev pub with_page : State → ℕ → State
with_page st a = record {
  end = st.end;
  count = st.count;
  parent = st.parent;
  size = st.size;
  n = st.n + 1;
  pages = set st.pages st.n a;
}

abbrev pub with_size : State → ℕ → State
with_size st size = record {
  end = st.end;
  count = st.count;
  parent = st.parent;
  size = size;
  n = st.n;
  pages = st.pages;
}

-- "filled from the session's view and with zeros past the size": the p bytes of page a.
unfoldable pub first_copy : List ℕ → Setting → List Entry → ℕ → Held → List ℕ
first_copy original s index a held =
    tabulate s.form.page (λ j. cond (ltb (a + j) held.session.size) (session_byte original held.history s held.session index (a + j)) 0)

-- "Each page .. is copied on first touch to the next free p bytes after the committed end".
unfoldable pub touched : List ℕ → Setting → List Entry → ℕ → Held → Held
touched original s index a held =
    let st = held.session in
    cond (has (own_pages st) a) held
    (record {
      history = laid held.history (own_address s st st.n) (first_copy original s index a held);
      session = with_page st a;
    })

-- The bytes of a write at an offset that fall into page a, laid over that page, which stands at an address;
unfoldable pub over_page : List ℕ → ℕ → ℕ → ℕ → ℕ → List ℕ → List ℕ
over_page history to p a at bytes =
    let first = max at a in
    let last = min (at + length bytes) (a + p) in
    laid history (to + (first - a)) (part bytes (first - at) (last - first))

-- laid over the session's page: "a later touch rewrites it there".
unfoldable pub laid_on_page : Setting → ℕ → List ℕ → ℕ → Held → Held
laid_on_page s at bytes a held =
    let st = held.session in
    record {
      history = over_page held.history (own_address s st (place_of a (own_pages st))) s.form.page a at bytes;
      session = st;
    }

-- Page after page.
unfoldable pub written_pages : List ℕ → Setting → List Entry → ℕ → List ℕ → List ℕ → Held → Held
written_pages original s index at bytes [] held = held
written_pages original s index at bytes (a ∷ pages) held =
    written_pages original s index at bytes pages (laid_on_page s at bytes a (touched original s index a held))

-- "Each page it shares a byte with, in rising order"; a write "may extend" the session's size.
unfoldable pub written : List ℕ → Setting → List Entry → ℕ → List ℕ → Held → Held
written original s index at bytes held =
    let after = written_pages original s index at bytes (pages_shared s.form.page at (length bytes)) held in
    record {
      history = after.history;
      session = with_size after.session (max held.session.size (at + length bytes));
    }

-- The own pages once further pages were touched: each that is not yet there comes behind the others.
unfoldable pub touching : List ℕ → List ℕ → List ℕ
touching own [] = own
touching own (a ∷ pages) = touching (cond (has own a) own (own ++ (a ∷ []))) pages

-- ---- The merged index

-- An entry put in at its place in the rising order, or put over the one of its logical address.
unfoldable pub put : Entry → List Entry → List Entry
put e [] = e ∷ []
put e (x ∷ index) =
    cond (ltb e.logical x.logical) (e ∷ x ∷ index) (cond (eqb e.logical x.logical) (e ∷ index) (x ∷ put e index))

-- Each page put in, counted from i on, with the entry that is made of its count and its address.
unfoldable pub put_all : (ℕ → ℕ → Entry) → ℕ → List ℕ → List Entry → List Entry
put_all make i [] index = index
put_all make i (a ∷ pages) index = put_all make (suc i) pages (put (make i a) index)

-- The entry of own page i, whose logical address is a: own pages of p bytes each lie from an address on.
abbrev pub own_entry : List ℕ → ℕ → ℕ → ℕ → ℕ → Entry
own_entry history p from i a = record {
  logical = a;
  physical = from + i * p;
  checksum = checksum (part history (from + i * p) p);
}

-- "its index: the parent's, with the session's pages put in or put over".
unfoldable pub merged_index : List ℕ → Setting → State → List Entry → List Entry
merged_index history s st index = put_all (own_entry history s.form.page st.end) 0 (own_pages st) index

-- How many entries would result if pages were put in: that goes by their addresses alone.
abbrev pub placeless : ℕ → ℕ → Entry
placeless i a = record { logical = a; physical = 0; checksum = 0 }

unfoldable pub merged_count : List Entry → List ℕ → ℕ
merged_count index pages = length (put_all placeless 0 pages index)

-- ---- Commit

-- "Commit appends after the session's pages the record,
abbrev pub record_stored : Setting → State → ℕ → ℕ → ℕ → Record
record_stored s st entries name comment = record {
  address = own_address s st st.n;
  size = record_size s.form entries name comment;
  revision = s.count + 1;
  parent = st.parent;
  logical = st.size;
  page = s.form.page;
  entries = entries;
  name = name;
  comment = comment;
}

--  then the new whole history, then rewrites the header with the lock clear."
abbrev pub setting_stored : Setting → Record → Setting
setting_stored s r = record {
  form = s.form;
  original = s.original;
  address = end_of s.form r.address r.size;
  size = whole_size (s.count + 1);
  count = s.count + 1;
  lock = false;
  branching = s.branching;
}

-- The locations that stand, and the new record's behind them.
abbrev pub locations_stored : List ℕ → Setting → Record → List ℕ
locations_stored history s r =
    part history (location_at s 1) (location_width * s.count) ++ location_bytes s.form r.address r.size

-- "stores all four as given": the history after a commit of an index, with a time, a user ID, a name and a comment.
unfoldable pub committed : List ℕ → Setting → State → List Entry → List ℕ → ℕ → List ℕ → List ℕ → List ℕ
committed history s st index time user name comment =
    let r = record_stored s st (length index) (length name) (length comment) in
    let after = setting_stored s r in
    let withRecord = laid history r.address (record_bytes s.form r time user index name comment) in
    let withWhole = laid withRecord after.address (whole_bytes s.form after.count (locations_stored history s r)) in
    laid withWhole 0 (header_bytes after)
