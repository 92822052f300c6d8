-- Opening and release, as the code goes through them.
use mathlib.Core.Path.{◌≡◌, refl, sym, ap, ◌∙◌}
use mathlib.Core.Bool.{Bool, true, false, not}
use mathlib.Core.List.{List}
use Prim.Native.Nat.{ℕ, ◌≤◌, ◌<◌}
use borrow.Author.Tests.{le-leb, lt-leb, not-true, not-false}
use Rattle.rules.specs.Bytes.{laid}
use Rattle.rules.specs.Layout.{revision_limit, flags_of, header_front, header_bytes, setting_with, setting_of, with_lock}
use Rattle.rules.specs.Session.{ended, locked, opened, released}
use Rattle.rules.specs.Rows.{revision_unknown, lock_set, not_newest, full}
use Rattle.rules.specs.Calls.{row, ◌then◌, header_rows, both_rows, record_rows, asked, open_rows, open_for_writing, release}
use Rattle.rules.specs.declared.Setting.{Setting}
use Rattle.rules.specs.declared.Record.{Record}
use Rattle.rules.specs.declared.State.{State}
use Rattle.rules.proofs.Rows.{rows_hold, rows_past}
use Rattle.whole.specs.Sound.{Sound}
use Rattle.records.specs.Sound.{Standing}
use Rattle.sessions.proofs.Answers.{answer_refused, answer-accepted}

-- ---- The rows of opening

pub full-holds : (s : Setting) → revision_limit ≤ s.count → full s ≡ true
unfolding full
full-holds s h = le-leb revision_limit s.count h

pub full_past : (s : Setting) → s.count < revision_limit → full s ≡ false
unfolding full
full_past s h = lt-leb revision_limit s.count h

module _ (o h : List ℕ) (revision : ℕ) where
  pub open_both : (n : ℕ) → n ≡ both_rows o h (setting_of h) → (n ≡ 0 → ⊥) → n ≡ open_rows o h revision
  unfolding open_rows
  open_both n e f = rows_hold _ n e f

  -- The rows behind 1 to 5, of the setting that was read and the revision that is meant.
  pub open-behind : {both n k : ℕ} {s : Setting} → both ≡ both_rows o h (setting_of h) → both ≡ 0 → Sound h s → k ≡ asked s revision
      → n ≡ row 6 (revision_unknown s revision) then row 11 (lock_set s) then row 12 (not_newest s k) then row 18 (full s) then record_rows h s k
      → n ≡ open_rows o h revision
  unfolding open_rows
  open-behind e z q p r = rows_past _ e z (r ∙ rw (p, q.setting))

  -- ---- The call

  pub open_refused : (n : ℕ) {st : State} → n ≡ open_rows o h revision → (n ≡ 0 → ⊥) → st ≡ ended
      → record { number = n; session = st; bytes = h } ≡ open_for_writing o h revision
  unfolding open_for_writing
  open_refused n e f q = answer_refused _ ended _ h n e f q

  pub open-accepted : {k : ℕ} {s t : Setting} {r : Record} {st : State} {b : List ℕ} → 0 ≡ open_rows o h revision → Standing h s (asked s revision) r
      → k ≡ asked s revision → t ≡ with_lock true s → b ≡ laid h 0 (header_bytes t) → st ≡ opened s k r.logical
      → record { number = 0; session = st; bytes = b } ≡ open_for_writing o h revision
  unfolding open_for_writing locked
  open-accepted e w p g u v =
      let q = w.sound.setting in
      answer-accepted _ ended _ h e (v ∙ rw (w.found, p, q)) (u ∙ rw (g, q))

-- ---- Release

-- The header's bytes do not go by the count, which does not stand in it.
count_apart : (h : List ℕ) (n : ℕ) (lock : Bool) → header_bytes (with_lock lock (setting_with h n)) ≡ header_bytes (with_lock lock (setting_of h))
unfolding header_bytes header_front flags_of setting_of setting_with
count_apart h n lock = refl

module _ (h : List ℕ) {s : Setting} (q : s ≡ setting_with h 0) where
  lock_is : s.lock ≡ (setting_of h).lock
  unfolding setting_of setting_with
  lock_is = ap (λ (t : Setting). t.lock) q

  pub unlocked : not s.lock ≡ true → h ≡ released h (setting_of h)
  unfolding released
  unlocked l = rw (sym lock_is ∙ not-true _ l)

  pub unlock_stores : {t : Setting} {b : List ℕ} → not s.lock ≡ false → t ≡ with_lock false s → b ≡ laid h 0 (header_bytes t)
      → b ≡ released h (setting_of h)
  unfolding released
  unlock_stores l g u = u ∙ rw (g, q, sym lock_is ∙ not-false _ l, count_apart h 0 false)

module _ (st : State) (h : List ℕ) where
  pub release_refused : (n : ℕ) → n ≡ header_rows h → (n ≡ 0 → ⊥) → record { number = n; session = st; bytes = h } ≡ release st h
  unfolding release
  release_refused n e f = answer_refused ended st _ h n e f refl

  pub release-accepted : {n : ℕ} {new : State} {b : List ℕ} → n ≡ header_rows h → n ≡ 0 → b ≡ released h (setting_of h) → new ≡ ended
      → record { number = 0; session = new; bytes = b } ≡ release st h
  unfolding release
  release-accepted e z u v = answer-accepted ended st _ h (sym z ∙ e) v u
