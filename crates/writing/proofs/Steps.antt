-- Rows of a write, from what its steps find, and its outcome.
use mathlib.Core.Path.{◌≡◌, refl, sym, ap, ◌∙◌}
use mathlib.Core.Bool.{Bool, true, false}
use mathlib.Core.List.{List}
use Prim.Native.Nat.{ℕ, ◌+◌, ◌-◌, ◌≤◌, ◌<◌}
use native.Mathlib.Omega.{arith}
use lib.Dec.{ltb}
use lib.ListN.{length}
use borrow.Author.Tests.{lt-ltb, le-ltb, ltb-false}
use Rattle.rules.specs.Layout.{limit, setting_of, entries_in, index_of}
use Rattle.rules.specs.View.{own_pages, pages_shared}
use Rattle.rules.specs.Session.{Held, written}
use Rattle.rules.specs.Rows.{read_outside, write_outside, write_too_far, pages_wrong}
use Rattle.rules.specs.Calls.{Outcome, row, ◌then◌, begin_rows, revision_index, write_rows, write}
use Rattle.rules.specs.declared.Setting.{Setting}
use Rattle.rules.specs.declared.Record.{Record}
use Rattle.rules.specs.declared.Index.{Index}
use Rattle.rules.specs.declared.State.{State}
use Rattle.rules.proofs.Rows.{then_assoc, rows_hold, rows_past, row-holds, row_past, last-holds, last_past}
use Rattle.records.specs.Sound.{index_in}
use Rattle.sessions.specs.Sound.{SoundSession}
use Rattle.sessions.proofs.Answers.{answer_refused, answer-accepted}
use Rattle.reading.proofs.Steps.{outside-near}
use Rattle.reading.proofs.Seen.{view-pages}
use Rattle.writing.specs.Writable.{Writable, would_own, rows_behind}
use Rattle.writing.proofs.Room.{room_rows, rows_roomy}

-- ---- Rows 10 and 19

pub far_judged : (at n : ℕ) → at ≤ limit → ltb (limit - at) n ≡ write_too_far at n
unfolding write_too_far read_outside
far_judged at n l = outside-near limit at n l

past-size : (size at : ℕ) → size < at → true ≡ write_outside size at
unfolding write_outside
past-size size at l = rw (lt-ltb size at l)

up_to-size : (size at : ℕ) → at ≤ size → false ≡ write_outside size at
unfolding write_outside
up_to-size size at l = rw (le-ltb size at l)

pub near_enough : (at n : ℕ) → write_too_far at n ≡ false → at + n ≤ limit
unfolding write_too_far
near_enough at n e = ltb-false limit (at + n) e

-- ---- The rows behind the session's

module _ (st : State) (h : List ℕ) (s : Setting) (r : Record) (at n : ℕ) where
  abbrev room_of : ℕ
  room_of = room_rows (index_of h s.form r) (would_own st s at n) (length h) st.end s.form.page

  abbrev damaged_of : Bool
  damaged_of = pages_wrong (own_pages st) h s.form.page (index_of h s.form r) (pages_shared s.form.page at n)

  split : rows_behind st h s r at n ≡ row 10 (write_outside st.size at) then (row 19 (write_too_far at n) then (room_of then row 9 damaged_of))
  unfolding rows_behind
  split = simp then_assoc

  pub write_outside_lem : st.size < at → 10 ≡ rows_behind st h s r at n
  write_outside_lem l = rw split (row-holds 10 _ (omega arith) (past-size st.size at l) refl)

  module _ (l : at ≤ st.size) {b : Bool} (eb : b ≡ write_too_far at n) where
    pub write_far : b ≡ true → 19 ≡ rows_behind st h s r at n
    write_far t = rw split (row_past 10 _ (up_to-size st.size at l) refl (row-holds 19 _ (omega arith) eb t))

    module _ (t : b ≡ false) {j : ℕ} (ej : j ≡ room_of) where
      rest : {i : ℕ} → i ≡ room_of then row 9 damaged_of → i ≡ rows_behind st h s r at n
      rest q = rw split (row_past 10 _ (up_to-size st.size at l) refl (row_past 19 _ eb t q))

      pub write-room : (j ≡ 0 → ⊥) → j ≡ rows_behind st h s r at n
      write-room f = rest (rows_hold _ _ ej f)

      module _ (y : j ≡ 0) (w : SoundSession h s st r) {x : Index} (ex : x ≡ index_in s r) {c : Bool}
          (ec : c ≡ pages_wrong (own_pages st) h x.form.page (entries_in h x) (pages_shared x.form.page at n)) where
        pub write_damaged : c ≡ true → 9 ≡ rows_behind st h s r at n
        write_damaged u = rest (rows_past _ ej y (last-holds 9 (view-pages w.parent ex (own_pages st) at n ec) u))

        pub write_fine : c ≡ false → 0 ≡ rows_behind st h s r at n
        write_fine u = rest (rows_past _ ej y (last_past 9 (view-pages w.parent ex (own_pages st) at n ec) u))

      -- What they leave.
      pub writable : j ≡ 0 → SoundSession h s st r → Writable h s st r at n
      writable y w =
          let q = rows_roomy (index_of h s.form r) (would_own st s at n) (length h) st.end s.form.page (sym ej ∙ y) in
          record { session = w; near = near_enough at n (sym eb ∙ t); touches = q.touches; room = q.room }

-- ---- All rows

module _ (st : State) (o h : List ℕ) (at n : ℕ) where
  pub write_begin : {k : ℕ} → k ≡ begin_rows st o h → (k ≡ 0 → ⊥) → k ≡ write_rows st o h at n
  unfolding write_rows
  write_begin e f = rows_hold _ _ e f

  pub write-behind : {k j : ℕ} {s : Setting} {r : Record} → k ≡ begin_rows st o h → k ≡ 0 → SoundSession h s st r → j ≡ rows_behind st h s r at n → j ≡ write_rows st o h at n
  unfolding write_rows rows_behind
  write-behind e z w q = rows_past _ e z (q ∙ rw (w.parent.found, w.parent.sound.setting))

-- ---- The call

module _ (st : State) (o h : List ℕ) (at : ℕ) (bytes : List ℕ) where
  abbrev start : Held
  start = record { history = h; session = st }

  abbrev after : Held
  after = written o (setting_of h) (revision_index h (setting_of h) st.parent) at bytes start

  pub write_refused : (k : ℕ) → k ≡ write_rows st o h at (length bytes) → (k ≡ 0 → ⊥)
      → ◌≡◌ {A = Outcome} (record { number = k; session = st; bytes = h }) (write st o h at bytes)
  unfolding write
  write_refused k e f = answer_refused after.session st after.history h k e f refl

  pub write_done : {k : ℕ} {s : Setting} {r : Record} {t : State} {x : List ℕ} → k ≡ write_rows st o h at (length bytes) → k ≡ 0 → SoundSession h s st r
      → ◌≡◌ {A = Held} (record { history = x; session = t }) (written o s (index_of h s.form r) at bytes start)
      → ◌≡◌ {A = Outcome} (record { number = 0; session = t; bytes = x }) (write st o h at bytes)
  unfolding write
  write_done {k} {s} {r} {t} {x} e z w q =
      let p : ◌≡◌ {A = Held} (record { history = x; session = t }) after = q ∙ rw (w.parent.found, w.parent.sound.setting) in
      answer-accepted after.session st after.history h (sym z ∙ e) (ap (λ (v : Held). v.session) p) (ap (λ (v : Held). v.history) p)
