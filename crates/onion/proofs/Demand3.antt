-- Demand 3 of the exports: whoever calls them in any order, lending the same original and the same history each time, has a history
-- that never changes. Each step below rests on what its export promises, as the contract states it.
use mathlib.Core.Path.{◌≡◌, refl, sym, ap, ◌∙◌}
use mathlib.Core.Bool.{Bool, true}
use mathlib.Core.List.{List, [], ◌∷◌}
use Prim.Native.Nat.{ℕ, ◌+◌, ◌≤◌, ◌<◌}
use lib.ListN.{length, get_or}
use contract.Lifetimes.{Lfts}
use borrow.Fn.Kinds.{Dens, ended_of}
use denote.Triple.Clauses.{AtExit}
use Rattle.rules.specs.Bytes.{part}
use Rattle.rules.specs.Calls.{Reply, Outcome, fault}
use Rattle.rules.specs.Moments.{Call, opens, writes, commits, releases, session_reads, looks, Moment, answered, taken, after, fresh}
use Rattle.rules.specs.History.{Revision, nothing, laid_on, revisions_of, Kept, Creation, creates, original_alone}
use Rattle.rules.proofs.Created.{demand3}
use Rattle.onion.proofs.onion_create.Kinds as createKinds
use Rattle.onion.proofs.onion_create.Reads as create
use Rattle.onion.proofs.onion_open.Kinds as openKinds
use Rattle.onion.proofs.onion_open.Reads as opening
use Rattle.onion.proofs.onion_write.Kinds as writeKinds
use Rattle.onion.proofs.onion_write.Reads as write
use Rattle.onion.proofs.onion_commit.Kinds as commitKinds
use Rattle.onion.proofs.onion_commit.Reads as commit
use Rattle.onion.proofs.onion_release.Kinds as releaseKinds
use Rattle.onion.proofs.onion_release.Reads as release
use Rattle.onion.proofs.onion_session_read.Kinds as sessionReadKinds
use Rattle.onion.proofs.onion_session_read.Reads as session_read
use Rattle.onion.proofs.onion_read.Kinds as readKinds
use Rattle.onion.proofs.onion_read.Reads as read
use Rattle.onion.proofs.onion_check.Kinds as checkKinds
use Rattle.onion.proofs.onion_check.Reads as check
use Rattle.rules.specs.declared.Checked.{Checked}
use Rattle.store.specs.declared.Answer.{Answer}

-- The outcome of an answer, in the rules' words.
abbrev outcome_of : Answer → List ℕ → Outcome
outcome_of r bytes = record { number = r.number; session = r.session.state; bytes = bytes }

-- ---- Steps

-- A call that was run at a moment, and its outcome. `a` is what it was lent, `r` its answer, `e` what it left, and its promise is kept.
-- A call that only looks is lent the history for reading alone.
pub data Ran (original : List ℕ) (m : Moment) : Call → Outcome → Type 0 where
  opened : (κs : Lfts 2) (a : Dens κs openKinds.ps) (r : Answer) (e : AtExit (ended_of 2 openKinds.ps openKinds.r) κs) → opening.Learnt κs a r e
      → a.0.now ≡ original → a.1.0.now ≡ m.history → (keeps : Bool) → Ran original m (opens a.1.1.0 keeps) (outcome_of r e.1.0.now)
  wrote : (κs : Lfts 3) (a : Dens κs writeKinds.ps) (r : Answer) (e : AtExit (ended_of 3 writeKinds.ps writeKinds.r) κs) → write.Learnt κs a r e
      → a.0.state ≡ m.session → a.1.0.now ≡ original → a.1.1.0.now ≡ m.history
      → Ran original m (writes a.1.1.1.0 a.1.1.1.1.0.now) (outcome_of r e.1.1.0.now)
  committed : (κs : Lfts 4) (a : Dens κs commitKinds.ps) (r : Answer) (e : AtExit (ended_of 4 commitKinds.ps commitKinds.r) κs) → commit.Learnt κs a r e
      → a.0.state ≡ m.session → a.1.0.now ≡ m.history
      → Ran original m (commits a.1.1.0.now a.1.1.1.0 a.1.1.1.1.0.now a.1.1.1.1.1.0.now) (outcome_of r e.1.0.now)
  released : (κs : Lfts 1) (a : Dens κs releaseKinds.ps) (r : Answer) (e : AtExit (ended_of 1 releaseKinds.ps releaseKinds.r) κs) → release.Learnt κs a r e
      → a.0.state ≡ m.session → a.1.0.now ≡ m.history → Ran original m releases (outcome_of r e.1.0.now)
  session_ran : (κs : Lfts 3) (a : Dens κs sessionReadKinds.ps) (r : Answer) (e : AtExit (ended_of 3 sessionReadKinds.ps sessionReadKinds.r) κs) → session_read.Learnt κs a r e
      → a.0.state ≡ m.session → a.1.0.now ≡ original → a.1.1.0.now ≡ m.history
      → Ran original m (session_reads a.1.1.1.0 a.1.1.1.1.0.now) (outcome_of r e.1.1.1.1.0.now)
  looked : Ran original m looks (record { number = 0; session = m.session; bytes = m.history })

-- The promise of each is the rule's answer.
ran-answered : (original : List ℕ) (m : Moment) (call : Call) (o : Outcome) → Ran original m call o → o ≡ answered original call m
unfolding answered
ran-answered original m call o (opened κs a r e learnt p q keeps) = learnt ∙ rw (p, q)
ran-answered original m call o (wrote κs a r e learnt s p q) = learnt ∙ rw (s, p, q)
ran-answered original m call o (committed κs a r e learnt s q) = learnt ∙ rw (s, q)
ran-answered original m call o (released κs a r e learnt s q) = learnt ∙ rw (s, q)
ran-answered original m call o (session_ran κs a r e learnt s p q) = learnt ∙ rw (s, p, q)
ran-answered original m call o looked = refl

-- One call after the other.
pub data Trace (original : List ℕ) : Moment → Moment → Type 0 where
  still : (m : Moment) → Trace original m m
  step : (m m' : Moment) (call : Call) (o : Outcome) → Ran original m call o → Trace original (taken call o m) m' → Trace original m m'

trace-after : (original : List ℕ) (m m' : Moment) → Trace original m m' → (calls : List Call) × (m' ≡ after original calls m)
unfolding after
trace-after original m m' (still n) = ([], refl)
trace-after original m m' (step n n' call o ran rest) =
    let z = trace-after original (taken call o n) n' rest in
    (call ∷ z.0, z.1 ∙ ap (λ (x : Outcome). after original z.0 (taken call x n)) (ran-answered original n call o ran))

-- ---- The history that an accepted creation left

module _ (original : List ℕ) (κs : Lfts 1) (a : Dens κs createKinds.ps) (e : AtExit (ended_of 1 createKinds.ps createKinds.r) κs) (learnt : create.Learnt κs a 0 e)
    (lent : a.1.0 ≡ length original) where
  abbrev creation : Creation
  creation = record { original = original; buffer = a.0.now; page = a.1.1.0; branching = a.1.1.1.0 }

  created_so : record { number = 0; bytes = e.0.now } ≡ creates creation
  created_so = learnt ∙ rw lent

  -- Stands for itself: demand 3, of the exports.
  pub exports_keep : (m m' : Moment) → Trace original (fresh e.0.now) m → Trace original m m' → Kept original creation.page (original_alone creation) m m'
  exports_keep m m' first second =
      let calls = trace-after original (fresh e.0.now) m first in
      let more = trace-after original m m' second in
      let start : (creates creation).bytes ≡ e.0.now = ap (λ (r : Reply). r.bytes) (sym created_so) in
      let kept = demand3 creation calls.0 more.0 (ap (λ (r : Reply). r.number) (sym created_so)) in
      rw (← more.1) at (rw (← calls.1) at (rw start at kept))

-- ---- What the exports that read then give

module _ {original : List ℕ} {p : ℕ} {given : List Revision} {m m' : Moment} (kept : Kept original p given m m') where
  -- Stands for itself: a revision that was committed reads as it was worked out, for ever.
  pub read_kept : (k : ℕ) → k < length (revisions_of p given m.log) → (κs : Lfts 3) (a : Dens κs readKinds.ps) (r : ℕ) (e : AtExit (ended_of 3 readKinds.ps readKinds.r) κs) → read.Learnt κs a r e
      → a.0.now ≡ original → a.1.0.now ≡ m'.history → a.1.1.0 ≡ k
      → a.1.1.1.0 + length a.1.1.1.1.0.now ≤ length (get_or (revisions_of p given m.log) k nothing).bytes
      → (r ≡ 0) × (e.1.1.1.1.0.now ≡ part (get_or (revisions_of p given m.log) k nothing).bytes a.1.1.1.0 (length a.1.1.1.1.0.now))
  read_kept k known κs a r e learnt o h revision inside =
      let z = (learnt ∙ rw (o, h, revision)) ∙ (kept.stands k known).reads a.1.1.1.0 a.1.1.1.1.0.now inside in
      (ap (λ (x : Reply). x.number) z, ap (λ (x : Reply). x.bytes) z)

  -- Stands for itself: the whole check accepts the history.
  pub check_kept : (κs : Lfts 1) (a : Dens κs checkKinds.ps) (r : Checked) (e : AtExit (ended_of 1 checkKinds.ps checkKinds.r) κs) → check.Learnt κs a r e → a.0.now ≡ m'.history → r ≡ fault 0 0 0
  check_kept κs a r e learnt h = learnt ∙ rw h kept.checked

  -- Stands for itself: an open session reads as its parent's bytes with its accepted writes laid on.
  pub session_kept : m'.held ≡ true → (κs : Lfts 3) (a : Dens κs sessionReadKinds.ps) (r : Answer) (e : AtExit (ended_of 3 sessionReadKinds.ps sessionReadKinds.r) κs) → session_read.Learnt κs a r e
      → a.0.state ≡ m'.session → a.1.0.now ≡ original → a.1.1.0.now ≡ m'.history
      → a.1.1.1.0 + length a.1.1.1.1.0.now ≤ m'.session.size
      → outcome_of r e.1.1.1.1.0.now
      ≡ record { number = 0; session = m'.session; bytes = part (laid_on (get_or (revisions_of p given m'.log) m'.noted.parent nothing).bytes m'.noted.writes) a.1.1.1.0 (length a.1.1.1.1.0.now) }
  session_kept held κs a r e learnt s o h inside =
      (learnt ∙ rw (s, o, h)) ∙ (kept.shows held).reads a.1.1.1.0 a.1.1.1.1.0.now inside
