-- Demand 3: "From a freshly created history, after any calls in any order, every committed revision reads for ever as its parent's
-- bytes with its session's accepted writes laid on; its stored index equals the one worked out afresh; apart from the 40 header bytes
-- nothing below the end of a commit changes again."
use Rattle.std.specs.Prelude.{ℕ, zero, suc, ◌+◌, ◌*◌, ◌-◌, ◌≤◌, ◌<◌, ◌≡◌, Bool, true, cond, List, [], ◌∷◌, ◌++◌, length, get_or}
use Rattle.rules.specs.Bytes.{byte_at, part, laid, tabulate}
use Rattle.rules.specs.Checksum.{checksum}
use Rattle.rules.specs.Layout.{limit, header_width, setting_of, committed_end, record_of}
use Rattle.rules.specs.View.{place_of, has, has_page, entry_of, pages_in, pages_shared}
use Rattle.rules.specs.Session.{touching}
use Rattle.rules.specs.Calls.{Reply, revision_index, create, read, session_read, fault, check}
use Rattle.rules.specs.Moments.{Call, Write, Logged, Moment, after, fresh}
use Rattle.rules.specs.declared.Entry.{Entry}

-- ---- What the log says of each revision, worked out afresh

-- Writes laid on in order.
unfoldable pub laid_on : List ℕ → List Write → List ℕ
laid_on bytes [] = bytes
laid_on bytes (w ∷ rest) = laid_on (laid bytes w.at w.bytes) rest

-- The pages that writes touch, in the order of first touch.
unfoldable pub touched_by : ℕ → List ℕ → List Write → List ℕ
touched_by p own [] = own
touched_by p own (w ∷ rest) = touched_by p (touching own (pages_shared p w.at (length w.bytes))) rest

-- What a session brought: the address where its pages began, these pages, and the bytes of its revision.
pub record Brought : Type 0 where
  pub began : ℕ
  pub pages : List ℕ
  pub bytes : List ℕ

-- A revision: its bytes, and its line, that is the sessions that led to it, the last of them first, from a revision that was given
-- with its index.
pub record Revision : Type 0 where
  pub bytes : List ℕ
  pub line : List Brought
  pub given : List Entry

-- A page that a session touched lies behind those that it touched before, and holds the revision's bytes, with zeros past their end.
abbrev pub brought_entry : ℕ → Brought → ℕ → Entry
brought_entry p b a = record {
  logical = a;
  physical = b.began + place_of a b.pages * p;
  checksum = checksum (tabulate p (λ j. byte_at b.bytes (a + j)));
}

-- The entry of page a if there is one: of the last session on the line that touched it, else the one that was given.
unfoldable pub entry_afresh : ℕ → List Entry → List Brought → ℕ → List Entry
entry_afresh p given [] a = cond (has_page given a) (entry_of given a ∷ []) []
entry_afresh p given (b ∷ line) a = cond (has b.pages a) (brought_entry p b a ∷ []) (entry_afresh p given line a)

-- Page after page in rising order: of m pages from address a on, and of all that there can be.
unfoldable pub entries_afresh : ℕ → List Entry → List Brought → ℕ → ℕ → List Entry
entries_afresh p given line a zero = []
entries_afresh p given line a (suc m) = entry_afresh p given line a ++ entries_afresh p given line (a + p) m

abbrev pub index_afresh : ℕ → Revision → List Entry
index_afresh p v = entries_afresh p v.given v.line 0 (pages_in p 0 limit)

-- A revision from its parent, by what was noted of its session.
unfoldable pub worked : ℕ → Revision → Logged → Revision
worked p parent l =
    let bytes = laid_on parent.bytes l.writes in
    record {
      bytes = bytes;
      line = record { began = l.began; pages = touched_by p [] l.writes; bytes = bytes } ∷ parent.line;
      given = parent.given;
    }

abbrev pub nothing : Revision
nothing = record { bytes = []; line = []; given = [] }

-- Every revision: those that were given, and behind them those of the log.
unfoldable pub revisions_of : ℕ → List Revision → List Logged → List Revision
revisions_of p known [] = known
revisions_of p known (l ∷ log) = revisions_of p (known ++ (worked p (get_or known l.parent nothing) l ∷ [])) log

-- ---- The statement

-- Revision k of a history reads as these bytes, from every offset and for every length, and its stored index is this one.
pub record Stands (original history : List ℕ) (k : ℕ) (bytes : List ℕ) (index : List Entry) : Type 0 where
  pub size : (record_of history (setting_of history) k).logical ≡ length bytes
  pub reads : (at : ℕ) (out : List ℕ) → at + length out ≤ length bytes
      → read original history k at out ≡ record { number = 0; bytes = part bytes at (length out) }
  pub indexed : revision_index history (setting_of history) k ≡ index

-- The session reads as its parent's bytes with its accepted writes laid on.
pub record Shows (original : List ℕ) (m : Moment) (parent : Revision) : Type 0 where
  pub size : m.session.size ≡ length (laid_on parent.bytes m.noted.writes)
  pub reads : (at : ℕ) (out : List ℕ) → at + length out ≤ m.session.size
      → session_read m.session original m.history at out
      ≡ record { number = 0; session = m.session; bytes = part (laid_on parent.bytes m.noted.writes) at (length out) }

-- A history as it is taken up: the whole check accepts it, its original and page size are these, and its revisions, the first of them
-- the original, are given with their bytes and indexes. No session led to them.
pub record Given (original : List ℕ) (p : ℕ) (history : List ℕ) (given : List Revision) : Type 0 where
  pub checked : check history ≡ fault 0 0 0
  pub lent : (setting_of history).original ≡ length original
  pub page : (setting_of history).form.page ≡ p
  pub counted : (setting_of history).count + 1 ≡ length given
  pub stands : (k : ℕ) → k < length given → Stands original history k (get_or given k nothing).bytes (get_or given k nothing).given
  pub taken : (k : ℕ) → k < length given → (get_or given k nothing).line ≡ []

-- Of two moments: what was committed at the earlier one stands at the later one, and the bytes from the header up to the earlier
-- committed end are unchanged. The whole check accepts the history, and an open session shows what was written.
pub record Kept (original : List ℕ) (p : ℕ) (given : List Revision) (earlier later : Moment) : Type 0 where
  pub counted : (setting_of earlier.history).count + 1 ≡ length (revisions_of p given earlier.log)
  pub stands : (k : ℕ) → k < length (revisions_of p given earlier.log)
      → let v = get_or (revisions_of p given earlier.log) k nothing in Stands original later.history k v.bytes (index_afresh p v)
  pub unchanged : part later.history header_width (committed_end (setting_of earlier.history) - header_width)
      ≡ part earlier.history header_width (committed_end (setting_of earlier.history) - header_width)
  pub checked : check later.history ≡ fault 0 0 0
  pub shows : later.held ≡ true → Shows original later (get_or (revisions_of p given later.log) later.noted.parent nothing)

-- From a history that is given, after any calls, and after any calls more.
abbrev pub FromGiven : Type 0
FromGiven = (original : List ℕ) (p : ℕ) (history : List ℕ) (given : List Revision) (calls more : List Call) → Given original p history given
    → Kept original p given (after original calls (fresh history)) (after original more (after original calls (fresh history)))

-- What a creation is told, the history that it leaves, and that no revision but the original stands in it.
pub record Creation : Type 0 where
  pub original : List ℕ
  pub buffer : List ℕ
  pub page : ℕ
  pub branching : Bool

abbrev pub creates : Creation → Reply
creates c = create c.buffer (length c.original) c.page c.branching

abbrev pub original_alone : Creation → List Revision
original_alone c = record { bytes = c.original; line = []; given = [] } ∷ []

-- From a freshly created history.
abbrev pub Demand3 : Type 0
Demand3 = (c : Creation) (calls more : List Call) → (creates c).number ≡ 0
    → let first = after c.original calls (fresh (creates c).bytes) in
    Kept c.original c.page (original_alone c) first (after c.original more first)
