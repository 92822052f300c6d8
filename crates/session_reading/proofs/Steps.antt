-- Rows and bytes of a session read, from what its steps find.
use mathlib.Core.Path.{◌≡◌, sym, ◌∙◌}
use mathlib.Core.List.{List}
use Prim.Native.Nat.{ℕ, ◌+◌}
use lib.ListN.{length}
use Rattle.rules.specs.Bytes.{tabulate}
use Rattle.rules.specs.Layout.{setting_of, entries_in}
use Rattle.rules.specs.View.{own_pages, session_bytes, shown_byte, pages_shared}
use Rattle.rules.specs.Rows.{read_outside, pages_wrong}
use Rattle.rules.specs.Calls.{Outcome, row, ◌then◌, begin_rows, revision_index, session_read_rows, session_read}
use Rattle.rules.specs.declared.Setting.{Setting}
use Rattle.rules.specs.declared.Record.{Record}
use Rattle.rules.specs.declared.Index.{Index}
use Rattle.rules.specs.declared.State.{State}
use Rattle.rules.proofs.Rows.{rows_hold, rows_past, left_alone}
use Rattle.records.specs.Sound.{index_in}
use Rattle.records.proofs.Fields.{index-there}
use Rattle.sessions.specs.Sound.{SoundSession}
use Rattle.reading.proofs.Seen.{view-bytes}

module _ (st : State) (o h : List ℕ) (at : ℕ) (out : List ℕ) where
  pub read_refused : {k : ℕ} → k ≡ session_read_rows st o h at (length out) → (k ≡ 0 → ⊥)
      → ◌≡◌ {A = Outcome} (record { number = k; session = st; bytes = out }) (session_read st o h at out)
  unfolding session_read
  read_refused {k} e f = rw (← e, ← left_alone k (session_bytes o h (setting_of h) st (revision_index h (setting_of h) st.parent) at (length out)) out f)

  pub begin_refused : {k : ℕ} → k ≡ begin_rows st o h → (k ≡ 0 → ⊥) → k ≡ session_read_rows st o h at (length out)
  unfolding session_read_rows
  begin_refused e f = rows_hold _ _ e f

  module _ {s : Setting} {r : Record} (w : SoundSession h s st r) {x : Index} (ex : x ≡ index_in s r) {k j : ℕ} (e : k ≡ begin_rows st o h) (z : k ≡ 0)
      (q : j ≡ row 10 (read_outside st.size at (length out)) then row 9 (pages_wrong (own_pages st) h x.form.page (entries_in h x) (pages_shared x.form.page at (length out)))) where
    -- The rows behind the session's, of its view.
    pub rows_behind_lem : j ≡ session_read_rows st o h at (length out)
    unfolding session_read_rows index_in
    rows_behind_lem = let p = w.parent in rows_past _ e z (q ∙ rw (ex, index-there h s r, p.found, p.sound.setting))

    pub read_done : {after : List ℕ} → j ≡ 0 → after ≡ tabulate (length out) (λ i. shown_byte o h x.form.page (entries_in h x) st.end (own_pages st) (at + i))
        → ◌≡◌ {A = Outcome} (record { number = 0; session = st; bytes = after }) (session_read st o h at out)
    unfolding session_read
    read_done {after} y g =
        let p = w.parent in
        let bytes : after ≡ session_bytes o h (setting_of h) st (revision_index h (setting_of h) st.parent) at (length out) =
        g ∙ view-bytes p ex o (own_pages st) st.end at (length out) ∙ rw (p.found, p.sound.setting) in
        let accepted : session_read_rows st o h at (length out) ≡ 0 = sym rows_behind_lem ∙ y in
        rw (accepted, bytes)
