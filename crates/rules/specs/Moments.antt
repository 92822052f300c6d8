-- The calls on a history in any order, and the moments between them: what is lent to the next call, and what was noted of the calls
-- that were accepted.
use Rattle.std.specs.Prelude.{ℕ, Bool, true, false, cond, List, [], ◌∷◌, ◌++◌}
use Rattle.rules.specs.Layout.{setting_of, committed_end}
use Rattle.rules.specs.Session.{ended}
use Rattle.rules.specs.Calls.{Outcome, accepted, asked, open_for_writing, session_read, write, commit, release}
use Rattle.rules.specs.declared.State.{State}

-- ---- Calls

-- The calls on a history, each with what it is given; any of them may be refused. A refused open gives back the ended session and
-- leaves the one that the caller had usable: `keeps` says that the caller goes on with that one. `looks` is every call that is lent
-- the history for reading alone and no session: read, look-up, browsing, whole check and list.
pub data Call : Type 0 where
  opens : (revision : ℕ) (keeps : Bool) → Call
  writes : (at : ℕ) (bytes : List ℕ) → Call
  commits : (time : List ℕ) (user : ℕ) (name comment : List ℕ) → Call
  releases : Call
  session_reads : (at : ℕ) (out : List ℕ) → Call
  looks : Call

-- ---- Moments

-- A write that was accepted, and what is noted of a session: the revision that it was opened on, the address where its pages begin,
-- and its accepted writes in order.
pub record Write : Type 0 where
  pub at : ℕ
  pub bytes : List ℕ

pub record Logged : Type 0 where
  pub parent : ℕ
  pub began : ℕ
  pub writes : List Write

-- A moment: the history, the session that the caller has, whether that one is open, what is noted of it, and the committed sessions.
pub record Moment : Type 0 where
  pub history : List ℕ
  pub session : State
  pub held : Bool
  pub noted : Logged
  pub log : List Logged

abbrev pub opened_on : ℕ → ℕ → Logged
opened_on parent began = record { parent = parent; began = began; writes = [] }

abbrev pub noting : Logged → ℕ → List ℕ → Logged
noting l at bytes = record { parent = l.parent; began = l.began; writes = l.writes ++ (record { at = at; bytes = bytes } ∷ []) }

-- ---- What a call leaves

-- What a call answers and leaves. A session read leaves its own buffer, and a call that only looks leaves nothing.
unfoldable pub answered : List ℕ → Call → Moment → Outcome
answered original (opens revision keeps) m = open_for_writing original m.history revision
answered original (writes at bytes) m = write m.session original m.history at bytes
answered original (commits time user name comment) m = commit m.session m.history time user name comment
answered original releases m = release m.session m.history
answered original (session_reads at out) m = session_read m.session original m.history at out
answered original looks m = record { number = 0; session = m.session; bytes = m.history }

-- The moment that an answer leaves: the session is the one handed back, and what was accepted is noted.
unfoldable pub taken : Call → Outcome → Moment → Moment
taken (opens revision keeps) o m =
    let s = setting_of m.history in
    record {
      history = o.bytes;
      session = accepted o.number o.session (cond keeps m.session o.session);
      held = accepted o.number true (cond keeps m.held false);
      noted = accepted o.number (opened_on (asked s revision) (committed_end s)) m.noted;
      log = m.log;
    }
taken (writes at bytes) o m = record {
  history = o.bytes;
  session = o.session;
  held = m.held;
  noted = accepted o.number (noting m.noted at bytes) m.noted;
  log = m.log;
}
taken (commits time user name comment) o m = record {
  history = o.bytes;
  session = o.session;
  held = accepted o.number false m.held;
  noted = m.noted;
  log = accepted o.number (m.log ++ (m.noted ∷ [])) m.log;
}
taken releases o m = record {
  history = o.bytes;
  session = o.session;
  held = accepted o.number false m.held;
  noted = m.noted;
  log = m.log;
}
taken (session_reads at out) o m = record { history = m.history; session = o.session; held = m.held; noted = m.noted; log = m.log }
taken looks o m = m

abbrev pub next : List ℕ → Call → Moment → Moment
next original call m = taken call (answered original call m) m

unfoldable pub after : List ℕ → List Call → Moment → Moment
after original [] m = m
after original (call ∷ calls) m = after original calls (next original call m)

-- The first moment: no session is open, and nothing was committed.
abbrev pub fresh : List ℕ → Moment
fresh history = record { history = history; session = ended; held = false; noted = opened_on 0 0; log = [] }
