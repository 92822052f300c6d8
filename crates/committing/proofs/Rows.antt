-- The rows of a commit, as the code goes through them, and what they leave.
use mathlib.Core.Path.{◌≡◌, refl, sym, ◌∙◌}
use mathlib.Core.Bool.{Bool, true, false}
use mathlib.Core.List.{List}
use Prim.Native.Nat.{ℕ, ◌+◌, ◌≤◌, ◌<◌}
use native.Mathlib.Omega.{arith}
use lib.Dec.{leb, ltb}
use lib.ListN.{length, length-take}
use borrow.Author.Tests.{lt-ltb, le-ltb, leb-true, ltb-false, not-false}
use Rattle.rules.specs.Layout.{
  limit,
  revision_limit,
  entry_limit,
  touch_limit,
  name_limit,
  comment_limit,
  end_of,
  entries_width,
  committed_end,
  entries_in,
  index_of,
  text_right,
}
use Rattle.rules.specs.Orders.{Rising}
use Rattle.rules.specs.View.{logicals, own_pages}
use Rattle.rules.specs.Session.{ended, merged_index, merged_count, record_stored, setting_stored, committed}
use Rattle.rules.specs.Rows.{too_many, no_room, texts_wrong}
use Rattle.rules.specs.Calls.{Outcome, row, ◌then◌, held_rows, commit_rows, commit}
use Rattle.rules.specs.declared.Setting.{Setting}
use Rattle.rules.specs.declared.Record.{Record}
use Rattle.rules.specs.declared.Entry.{Entry}
use Rattle.rules.specs.declared.Index.{Index}
use Rattle.rules.specs.declared.State.{State}
use Rattle.rules.proofs.Places.{end-near, count_most, entries-most}
use Rattle.rules.proofs.Rows.{both, rows_hold, rows_past, row-holds, row_past, last-holds, last_past}
use Rattle.rules.proofs.Entries.{length_merged}
use Rattle.rules.proofs.Commits.{time_long}
use Rattle.layout.specs.Paged.{Paged, farthest}
use Rattle.records.specs.Sound.{index_in}
use Rattle.records.proofs.Fields.{index-there}
use Rattle.records.proofs.Stands.{index-rising}
use Rattle.sessions.specs.Sound.{SoundSession}
use Rattle.sessions.proofs.Answers.{answer_refused, answer-accepted}
use Rattle.committing.specs.Stored.{Small, Committable}

-- ---- The parent's index, with the session's pages

module _ (h : List ℕ) {s : Setting} {st : State} {r : Record} (w : SoundSession h s st r) where
  pub index-inside : {x : Index} → x ≡ index_in s r → x.at + entries_width x.form x.entries ≤ length h
  unfolding index_in
  index-inside e = let p = w.parent in rw e (omega (arith, p.right.inside, p.sound.inside))

  pub index_rises : {x : Index} → x ≡ index_in s r → Rising (logicals (entries_in h x))
  index_rises e = rw e (index-rising h s r w.parent.right)

  pub index_is : {x : Index} {k : ℕ} (own : List ℕ) → x ≡ index_in s r → k ≡ merged_count (entries_in h x) own → k ≡ merged_count (index_of h s.form r) own
  index_is own e f = f ∙ rw (e, index-there h s r)

-- ---- The rows behind

many_is : (st : State) (index : List Entry) {k : ℕ} → st.n ≤ touch_limit → k ≡ merged_count index (own_pages st) → too_many index (own_pages st) ≡ ltb entry_limit k
unfolding too_many
many_is st index l e =
    let f : length (own_pages st) ≤ touch_limit = simp length-take (omega arith) in
    rw (le-ltb touch_limit (length (own_pages st)) f, e)

texts_fit : (time name comment : List ℕ) → texts_wrong time name comment ≡ false → (length time ≡ 16) × (length name ≤ name_limit) × (length comment ≤ comment_limit)
unfolding texts_wrong
texts_fit time name comment e =
    let a = both _ _ (not-false _ e) in
    let b = both _ _ a.0 in
    (time_long time b.0, leb-true _ _ (both (text_right name) (leb (length name) name_limit) b.1).1, leb-true _ _ (both (text_right comment) (leb (length comment) comment_limit) a.1).1)

-- The record to be stored is small, and stands within the limit.
pub stored-small : {h : List ℕ} {s : Setting} {st : State} {parent : Record} (k name comment : ℕ) {r : Record} → SoundSession h s st parent → Small s st k name comment
    → r ≡ record_stored s st k name comment → (r.address ≤ limit) × (r.size + 4096 ≤ limit)
stored-small {h} {s} {st} k name comment w q e =
    let f = s.form in
    rw e (omega (arith, w.room, w.parent.sound.short), omega (arith, q.few, q.named, q.commented, count_most f, entries-most f k q.few))

-- The setting to be stored is small, too.
pub setting-near : (s : Setting) (r : Record) {t : Setting} → t ≡ setting_stored s r → Paged s.form → r.address ≤ limit → r.size + 4096 ≤ limit → s.count < revision_limit
    → (Paged s.form) × (t.address ≤ farthest) × (t.size ≤ farthest)
setting-near s r e p a b c = rw e (p, omega (arith, end-near s.form r.address r.size, p.most), omega arith)

pub room_is : (room : ℕ) (s : Setting) (r : Record) {t : Setting} {end : ℕ} → t ≡ setting_stored s r → end ≡ end_of s.form t.address t.size → ltb room end ≡ no_room room (committed_end (setting_stored s r))
unfolding no_room
room_is room s r e f = rw (f, e)

-- ---- All rows of a commit

module _ (st : State) (h time name comment : List ℕ) where
  abbrev end_stored : Setting → Record → ℕ
  end_stored s parent = committed_end (setting_stored s (record_stored s st (merged_count (index_of h s.form parent) (own_pages st)) (length name) (length comment)))

  pub commit-held : {k : ℕ} → k ≡ held_rows st h → (k ≡ 0 → ⊥) → k ≡ commit_rows st h time name comment
  unfolding commit_rows
  commit-held e f = rows_hold _ _ e f

  module _ {k : ℕ} (e : k ≡ held_rows st h) (z : k ≡ 0) {s : Setting} {parent : Record} (w : SoundSession h s st parent)
      {n : ℕ} (en : n ≡ merged_count (index_of h s.form parent) (own_pages st)) where
    rest : {j : ℕ} → j ≡ row 14 (ltb entry_limit n) then (row 16 (texts_wrong time name comment) then row 15 (no_room (length h) (end_stored s parent)))
        → j ≡ commit_rows st h time name comment
    unfolding commit_rows
    rest q =
        let p = w.parent in
        rows_past _ e z (q ∙ rw (← many_is st (index_of h s.form parent) w.touched en, ← length_merged h s st (index_of h s.form parent), p.found, p.sound.setting))

    pub commit_many : entry_limit < n → 14 ≡ commit_rows st h time name comment
    commit_many l = rest (row-holds 14 _ (omega arith) refl (lt-ltb entry_limit n l))

    module _ (few : n ≤ entry_limit) {b : Bool} (eb : b ≡ texts_wrong time name comment) where
      pub commit_texts : b ≡ true → 16 ≡ commit_rows st h time name comment
      commit_texts t = rest (row_past 14 _ refl (le-ltb entry_limit n few) (row-holds 16 _ (omega arith) eb t))

      module _ (t : b ≡ false) where
        fit : (length time ≡ 16) × (length name ≤ name_limit) × (length comment ≤ comment_limit)
        fit = texts_fit time name comment (sym eb ∙ t)

        pub commit-small : Small s st n (length name) (length comment)
        commit-small =
            let v = w.parent.sound in
            record {
              paged = v.paged;
              end = omega (arith, w.end, v.ends, v.short);
              touched = w.touched;
              count = v.few;
              few = few;
              named = fit.1;
              commented = fit.2;
            }

        module _ {u : Record} (eu : u ≡ record_stored s st n (length name) (length comment)) {d : Bool} (ed : d ≡ no_room (length h) (committed_end (setting_stored s u))) where
          room : d ≡ no_room (length h) (end_stored s parent)
          room = ed ∙ rw (eu, en)

          pub commit-full : d ≡ true → 15 ≡ commit_rows st h time name comment
          commit-full p = rest (row_past 14 _ refl (le-ltb entry_limit n few) (row_past 16 _ eb t (last-holds 15 room p)))

          pub commit_fine : d ≡ false → 0 ≡ commit_rows st h time name comment
          commit_fine p = rest (row_past 14 _ refl (le-ltb entry_limit n few) (row_past 16 _ eb t (last_past 15 room p)))

          -- What they leave.
          pub committable : d ≡ false → Committable h s st parent u time name comment
          unfolding no_room
          committable p =
              let named : u.name ≡ length name = rw eu in
              let commented : u.comment ≡ length comment = rw eu in
              let same : record_stored s st n (length name) (length comment) ≡ record_stored s st (merged_count (index_of h s.form parent) (own_pages st)) u.name u.comment =
              rw (en, named, commented) in
              record {
                standing = record {
                  session = w;
                  stored = eu ∙ same;
                  few = rw eu few;
                  room = ltb-false _ _ (sym ed ∙ p);
                };
                timed = fit.0;
                named = named;
                commented = commented;
              }

  -- ---- The call

  module _ (user : ℕ) where
    pub commit_refused : {k : ℕ} → k ≡ commit_rows st h time name comment → (k ≡ 0 → ⊥)
        → ◌≡◌ {A = Outcome} (record { number = k; session = st; bytes = h }) (commit st h time user name comment)
    unfolding commit
    commit_refused e f = answer_refused ended st _ h _ e f refl

    pub commit-accepted : {k : ℕ} {s : Setting} {parent : Record} {new : State} {after : List ℕ} → k ≡ commit_rows st h time name comment → k ≡ 0
        → SoundSession h s st parent
        → after ≡ committed h s st (merged_index h s st (index_of h s.form parent)) time user name comment → new ≡ ended
        → ◌≡◌ {A = Outcome} (record { number = 0; session = new; bytes = after }) (commit st h time user name comment)
    unfolding commit
    commit-accepted e z w p q = answer-accepted ended st _ h (sym z ∙ e) q (p ∙ rw (w.parent.found, w.parent.sound.setting))
