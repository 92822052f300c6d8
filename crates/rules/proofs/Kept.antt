-- Demand 3: what is so at one moment every call keeps, and so it holds after any calls.
use mathlib.Core.Path.{◌≡◌, refl, sym, ap, ◌∙◌}
use mathlib.Core.Bool.{Bool, true, false, cond, true≢false}
use mathlib.Core.List.{List, [], ◌∷◌, ◌++◌}
use Prim.Native.Nat.{ℕ, zero, suc, ◌+◌, ◌-◌, ◌≤◌, ◌<◌}
use native.Mathlib.Omega.{arith}
use lib.ListN.{length, get_or, length-append, get_or-append}
use Rattle.rules.specs.Bytes.{byte_at, laid, tabulate}
use Rattle.rules.specs.Layout.{revision_limit, header_width, header_bytes, setting_of, with_lock, committed_end, entries_at, record_of}
use Rattle.rules.specs.View.{no_entry, revision_byte}
use Rattle.rules.specs.Session.{ended, locked, released}
use Rattle.rules.specs.Rows.{page_sum_wrong}
use Rattle.rules.specs.Calls.{Reply, record_rows, read_rows, read_bytes, read, session_rows, begin_rows, held_rows, revision_index, open_rows, open_for_writing, session_read, write_rows, write, commit_rows, commit, release}
use Rattle.rules.specs.Moments.{Call, opens, writes, commits, releases, session_reads, looks, Logged, Moment, answered, taken, next, after, fresh}
use Rattle.rules.specs.History.{Revision, nothing, worked, revisions_of, Stands, Shows, Given, Kept, FromGiven}
use Rattle.rules.specs.declared.Setting.{Setting}
use Rattle.rules.specs.declared.Entry.{Entry}
use Rattle.rules.specs.declared.State.{State}
use Rattle.rules.proofs.Bytes.{byte-part}
use Rattle.rules.proofs.Rows.{row-clear, then-clear}
use Rattle.rules.proofs.Places.{end-behind}
use Rattle.rules.proofs.Same.{Same, same-within, same_then, part_same}
use Rattle.rules.proofs.Headers.{whole_facts}
use Rattle.rules.proofs.Sessions.{session-right}
use Rattle.rules.proofs.Holds.{Holds, asked-known, read-stands, check_passed, check-holds, same-setting}
use Rattle.rules.proofs.Opened.{Opened, session-shows, behind, written-holds, written-opened}
use Rattle.rules.proofs.Locks.{lock-behind, lock-setting, lock-holds, opened-opens}
use Rattle.rules.proofs.Commits.{committed-holds, committed-same, committed-end}

-- ---- A moment

-- The session that a caller has is open, or it is the ended one.
pub data Session (original : List ℕ) (p : ℕ) (h : List ℕ) (vs : List Revision) (held : Bool) (st : State) (l : Logged) : Type 0 where
  none : held ≡ false → st ≡ ended → Session original p h vs held st l
  one : held ≡ true → Opened original p h vs st l → Session original p h vs held st l

pub record Right (original : List ℕ) (p : ℕ) (given : List Revision) (m : Moment) : Type 0 where
  pub history : Holds original p m.history (revisions_of p given m.log)
  pub session : Session original p m.history (revisions_of p given m.log) m.held m.session m.noted

-- ---- From one moment to a later one

-- All revisions are still there, and so are the bytes that they stand in.
pub record Later (original : List ℕ) (p : ℕ) (given : List Revision) (m m' : Moment) : Type 0 where
  pub right : Right original p given m'
  pub ends : committed_end (setting_of m.history) ≤ committed_end (setting_of m'.history)
  pub same : Same header_width (committed_end (setting_of m.history)) m.history m'.history
  pub long : length (revisions_of p given m.log) ≤ length (revisions_of p given m'.log)
  pub kept : (k : ℕ) → k < length (revisions_of p given m.log) → get_or (revisions_of p given m'.log) k nothing ≡ get_or (revisions_of p given m.log) k nothing

-- A revision that was committed comes behind the others.
revisions_more : (p : ℕ) (known : List Revision) (log : List Logged) (l : Logged)
    → revisions_of p known (log ++ (l ∷ [])) ≡ revisions_of p known log ++ (worked p (get_or (revisions_of p known log) l.parent nothing) l ∷ [])
unfolding revisions_of
revisions_more p known [] l = refl
revisions_more p known (x ∷ log) l = revisions_more p (known ++ (worked p (get_or known x.parent nothing) x ∷ [])) log l

module _ (original : List ℕ) (p : ℕ) (given : List Revision) where
  abbrev revisions : Moment → List Revision
  revisions m = revisions_of p given m.log

  later_then : {m m' m'' : Moment} → Later original p given m m' → Later original p given m' m'' → Later original p given m m''
  later_then v w = record {
    right = w.right;
    ends = omega (arith, v.ends, w.ends);
    same = same_then v.same (same-within header_width _ w.same (omega arith) v.ends);
    long = omega (arith, v.long, w.long);
    kept = λ k l. w.kept k (omega (arith, v.long)) ∙ v.kept k l;
  }

  -- The same history and the same log, with a session that is right.
  stays : (m m' : Moment) → m'.history ≡ m.history → m'.log ≡ m.log → Right original p given m
      → Session original p m.history (revisions m) m'.held m'.session m'.noted → Later original p given m m'
  stays m m' e f w s = record {
    right = record { history = rw (e, f) w.history; session = rw (e, f) s };
    ends = rw e (omega arith);
    same = rw e (record { long = refl; bytes = λ i a b. refl });
    long = rw f (omega arith);
    kept = λ k l. rw f;
  }

  module _ (m : Moment) (w : Right original p given m) where
    abbrev h : List ℕ
    h = m.history

    abbrev s : Setting
    s = setting_of h

    abbrev vs : List Revision
    vs = revisions m

    nothing_new : Later original p given m m
    nothing_new = stays m m refl refl w w.session

    -- The ended session fits no history.
    ended_apart : session_rows h s ended ≡ 0 → ⊥
    unfolding session_rows
    ended_apart e =
        let f = whole_facts h s w.history.whole in
        let r = session-right (length h) s ended (row-clear 13 _ (omega arith) (then-clear _ _ e).0) in
        omega (arith, r.end, f.behind, end-behind s.form 0 header_width, end-behind s.form s.address s.size)

    -- So a call that asks row 13 and is accepted has an open one.
    open_one : session_rows h s m.session ≡ 0 → (m.held ≡ true) × Opened original p h vs m.session m.noted
    open_one e = go w.session
      where
        go : Session original p h vs m.held m.session m.noted → (m.held ≡ true) × Opened original p h vs m.session m.noted
        go (none a b) = absurd (ended_apart (rw b at e))
        go (one a b) = (a, b)

    -- ---- Opening

    opening : (revision : ℕ) (keeps : Bool) (n : ℕ) → open_rows original h revision ≡ n → Later original p given m (next original (opens revision keeps) m)
    unfolding answered taken open_for_writing locked
    opening revision keeps zero e =
        rw e
        (record {
          right = record { history = lock-holds w.history true; session = one refl (opened-opens w.history revision e) };
          ends = rw (lock-setting w.history true) (omega arith);
          same = same-within header_width (committed_end s) (lock-behind w.history true) (omega arith) (whole_facts h s w.history.whole).ends;
          long = omega arith;
          kept = λ k l. refl;
        })
    opening revision true (suc n) e = rw e nothing_new
    opening revision false (suc n) e = rw e (stays m _ refl refl w (none refl refl))

    -- ---- Writing

    writing : (at : ℕ) (bytes : List ℕ) (n : ℕ) → write_rows m.session original h at (length bytes) ≡ n → Later original p given m (next original (writes at bytes) m)
    unfolding answered taken write write_rows begin_rows
    writing at bytes zero e =
        let opened = open_one (then-clear _ _ (then-clear _ _ e).0).1 in
        let o = opened.1 in
        rw e
        (record {
          right = record { history = written-holds w.history o at bytes e; session = one opened.0 (written-opened w.history o at bytes e) };
          ends = rw (same-setting w.history (behind w.history o at bytes e)) (omega arith);
          same = same-within header_width (committed_end s) (behind w.history o at bytes e) (omega arith) (omega arith);
          long = omega arith;
          kept = λ k l. refl;
        })
    writing at bytes (suc n) e = rw e nothing_new

    -- ---- Commit

    committing : (time : List ℕ) (user : ℕ) (name comment : List ℕ) (n : ℕ) → commit_rows m.session h time name comment ≡ n → Later original p given m (next original (commits time user name comment) m)
    unfolding answered taken commit commit_rows held_rows
    committing time user name comment zero e =
        let opened = open_one (then-clear _ _ (then-clear _ _ e).0).1 in
        let o = opened.1 in
        let more = revisions_more p given m.log m.noted in
        rw e
        (record {
          right = record { history = rw more (committed-holds w.history o time user name comment e); session = none refl refl };
          ends = committed-end w.history o time user name comment e;
          same = committed-same w.history o time user name comment e;
          long = rw (more, length-append) (omega arith);
          kept = λ k l. rw more (get_or-append vs _ nothing k l);
        })
    committing time user name comment (suc n) e = rw e nothing_new

    -- ---- Release

    releasing : Later original p given m (next original releases m)
    unfolding answered taken release released
    releasing = rw w.history.header (go s.lock refl)
      where
        go : (b : Bool) → s.lock ≡ b → Later original p given m (record { history = cond s.lock (laid h 0 (header_bytes (with_lock false s))) h; session = ended; held = false; noted = m.noted; log = m.log })
        go true e = rw e
            (record {
              right = record { history = lock-holds w.history false; session = none refl refl };
              ends = rw (lock-setting w.history false) (omega arith);
              same = same-within header_width (committed_end s) (lock-behind w.history false) (omega arith) (whole_facts h s w.history.whole).ends;
              long = omega arith;
              kept = λ k l. refl;
            })
        go false e = rw e (stays m _ refl refl w (none refl refl))

    -- ---- Calls that only read

    reading : (at : ℕ) (out : List ℕ) → Later original p given m (next original (session_reads at out) m)
    unfolding answered taken session_read
    reading at out = nothing_new

    looking : Later original p given m (next original looks m)
    unfolding answered taken
    looking = nothing_new

    -- ---- Any call

    pub next_later : (call : Call) → Later original p given m (next original call m)
    next_later (opens revision keeps) = opening revision keeps _ refl
    next_later (writes at bytes) = writing at bytes _ refl
    next_later (commits time user name comment) = committing time user name comment _ refl
    next_later releases = releasing
    next_later (session_reads at out) = reading at out
    next_later looks = looking

  after_later : (calls : List Call) (m : Moment) → Right original p given m → Later original p given m (after original calls m)
  unfolding after
  after_later [] m w = nothing_new m w
  after_later (call ∷ calls) m w =
      let first = next_later m w call in
      later_then first (after_later calls (next original call m) first.right)

  -- ---- The statement, of two moments

  shows_open : (m : Moment) (w : Right original p given m) → m.held ≡ true → Shows original m (get_or (revisions m) m.noted.parent nothing)
  shows_open m w t = go w.session
    where
      go : Session original p m.history (revisions m) m.held m.session m.noted → Shows original m (get_or (revisions m) m.noted.parent nothing)
      go (none a b) = absurd (true≢false (sym t ∙ a))
      go (one a o) = record { size = o.size; reads = session-shows w.history o }

  pub later_kept : (m m' : Moment) → Right original p given m → Later original p given m m' → Kept original p given m m'
  later_kept m m' w l = record {
    counted = w.history.counted;
    stands = λ k below.
        let v = get_or (revisions m) k nothing in
        let z = read-stands l.right.history k (omega (arith, l.long)) in
        rw (l.kept k below) at z;
    unchanged =
        let f = whole_facts m.history (setting_of m.history) w.history.whole in
        let end : ℕ = committed_end (setting_of m.history) in
        part_same l.same header_width (end - header_width) (omega arith)
        (omega (arith, f.behind, end-behind (setting_of m.history).form 0 header_width, end-behind (setting_of m.history).form (setting_of m.history).address (setting_of m.history).size));
    checked = check-holds l.right.history;
    shows = shows_open m' l.right;
  }

-- ---- A history that is given

-- One byte of a revision, from the rule of reading.
byte-read : (original h : List ℕ) (k : ℕ) (bytes : List ℕ) (index : List Entry) → k ≤ (setting_of h).count → (setting_of h).count ≤ revision_limit → Stands original h k bytes index
    → (i : ℕ) → i < length bytes → revision_byte original h (setting_of h).form.page (revision_index h (setting_of h) k) i ≡ byte_at bytes i
unfolding read read_bytes tabulate
byte-read original h k bytes index l m w i below =
    let e = w.reads i (0 ∷ []) (omega arith) in
    let n : read_rows original h k i 1 ≡ 0 = ap (λ (r : Reply). r.number) e in
    let b = rw n at (ap (λ (r : Reply). get_or r.bytes 0 0) e) in
    let none : i + 0 ≡ i = omega arith in
    rw ((asked-known (setting_of h) k l m).0, none) at (b ∙ byte-part bytes i 1 0 (omega arith))

given-right : (original : List ℕ) (p : ℕ) (h : List ℕ) (given : List Revision) → Given original p h given → Right original p given (fresh h)
unfolding revisions_of record_rows record_of entries_at
given-right original p h given w =
    let c = check_passed h w.checked in
    let f = whole_facts h (setting_of h) c.1 in
    record {
      history = record {
        header = c.0;
        whole = c.1;
        lent = w.lent;
        page = w.page;
        counted = w.counted;
        stored = λ k l.
            let z = w.stands k l in
            let below : k ≤ (setting_of h).count = omega (arith, w.counted) in
            record {
              rows = rows k below;
              size = z.size;
              pages = λ a. rw (w.taken k l, z.indexed);
              sums = sums k below;
              shown = byte-read original h k _ _ below f.few z;
            };
      };
      session = none refl refl;
    }
  where
    rows : (k : ℕ) → k ≤ (setting_of h).count → record_rows h (setting_of h) k ≡ 0
    rows zero l = refl
    rows (suc k) l = ((check_passed h w.checked).2 (suc k) (omega arith) l).0

    sums : (k : ℕ) → k ≤ (setting_of h).count → (j : ℕ) → j < length (revision_index h (setting_of h) k)
        → page_sum_wrong h (setting_of h).form.page (get_or (revision_index h (setting_of h) k) j no_entry) ≡ false
    sums zero l j m = absurd (omega arith)
    sums (suc k) l j m = ((check_passed h w.checked).2 (suc k) (omega arith) l).1 j m

-- Stands for itself: demand 3 from a history that is given.
pub from-given : FromGiven
from-given original p h given calls more w =
    let first = after_later original p given calls (fresh h) (given-right original p h given w) in
    let second = after_later original p given more (after original calls (fresh h)) first.right in
    later_kept original p given (after original calls (fresh h)) (after original more (after original calls (fresh h))) first.right second
