-- Row 13, as the code goes through it, and what the rows of a session tell once they have passed.
use mathlib.Core.Path.{◌≡◌}
use mathlib.Core.Bool.{Bool, true, false, not, ◌&&◌, ◌||◌}
use mathlib.Core.List.{List}
use Prim.Native.Nat.{ℕ, ◌*◌, ◌≤◌, ◌<◌}
use native.Mathlib.Nat.{mul-le-mul}
use native.Mathlib.Omega.{arith}
use lib.Dec.{leb, ltb, eqb}
use lib.ListN.{length}
use borrow.Author.Tests.{le-leb, lt-leb, lt-ltb, le-ltb, leb-true, eqb-true, not-true, not-false}
use Rattle.rules.specs.Layout.{limit, revision_limit, touch_limit, setting_of, committed_end}
use Rattle.rules.specs.View.{own_pages, own_address}
use Rattle.rules.specs.Rows.{pages_fit, session_wrong, size_below_parent}
use Rattle.rules.specs.Calls.{row, session_rows}
use Rattle.rules.specs.declared.Setting.{Setting}
use Rattle.rules.specs.declared.Record.{Record}
use Rattle.rules.specs.declared.State.{State}
use Rattle.rules.proofs.Rows.{both}
use Rattle.rules.proofs.Entries.{page_fits, pages-differ}
use Rattle.rules.proofs.Sessions.{session-right}
use Rattle.whole.specs.Sound.{Sound}
use Rattle.records.specs.Sound.{Standing}
use Rattle.sessions.specs.Sound.{SoundSession}

-- What row 13 asks of the session's numbers, each for itself, by the committed end.
abbrev numbers_fit_lem : ℕ → Setting → State → Bool
numbers_fit_lem end s st =
    s.lock && eqb st.end end && eqb st.count s.count && ltb st.count revision_limit && leb st.parent st.count
    && (s.branching || eqb st.parent st.count)
    && leb st.n touch_limit
    && leb st.size limit

-- The sum that is judged next goes by these two; it does not wrap.
pub record NumbersFit (s : Setting) (st : State) : Type 0 where
  pub end : st.end ≡ committed_end s
  pub touched : st.n ≤ touch_limit

pub pages-short : {n p : ℕ} → n ≤ touch_limit → p ≤ 4096 → n * p ≤ touch_limit * 4096
pages-short h l = mul-le-mul h l

numbers_fit : (s : Setting) (st : State) → numbers_fit_lem (committed_end s) s st ≡ true → NumbersFit s st
numbers_fit s st t =
    let a7 = both _ (leb st.size limit) t in
    let a6 = both _ (leb st.n touch_limit) a7.0 in
    let a5 = both _ (s.branching || eqb st.parent st.count) a6.0 in
    let a4 = both _ (leb st.parent st.count) a5.0 in
    let a3 = both _ (ltb st.count revision_limit) a4.0 in
    let a2 = both _ (eqb st.count s.count) a3.0 in
    let a1 = both s.lock (eqb st.end (committed_end s)) a2.0 in
    record { end = eqb-true _ _ a1.1; touched = leb-true _ _ a6.1 }

module _ (length : ℕ) (s : Setting) (st : State) where
  module _ {end : ℕ} (e : end ≡ committed_end s) where
    pub wrong_numbers : not (numbers_fit_lem end s st) ≡ true → true ≡ session_wrong length s st
    unfolding session_wrong
    wrong_numbers h = rw (← e, not-true (numbers_fit_lem end s st) h)

    module _ (h : not (numbers_fit_lem end s st) ≡ false) where
      pub numbers-right : NumbersFit s st
      numbers-right = numbers_fit s st (rw (← e) (not-false (numbers_fit_lem end s st) h))

      pub wrong-room : length < own_address s st st.n → true ≡ session_wrong length s st
      unfolding session_wrong
      wrong-room l = rw (← e, not-false (numbers_fit_lem end s st) h, lt-leb _ _ l)

      pub wrong-pages : {t : Bool} → own_address s st st.n ≤ length → t ≡ pages_fit s.form.page st.size (own_pages st) → not t ≡ session_wrong length s st
      unfolding session_wrong
      wrong-pages l q = rw (← e, not-false (numbers_fit_lem end s st) h, le-leb _ _ l, q)

-- Its last condition.
pub below-parent : (st : State) {r p : Record} → r ≡ p → st.size < r.logical → 13 ≡ row 13 (size_below_parent st p)
unfolding row size_below_parent
below-parent st {r} e h = rw (← e, lt-ltb st.size r.logical h)

pub not-below : (st : State) {r p : Record} → r ≡ p → r.logical ≤ st.size → 0 ≡ row 13 (size_below_parent st p)
unfolding row size_below_parent
not-below st {r} e h = rw (← e, le-ltb st.size r.logical h)

pub session-sound : (h : List ℕ) (s : Setting) (st : State) {r : Record} → session_wrong (length h) s st ≡ false → Standing h s st.parent r → r.logical ≤ st.size
    → SoundSession h s st r
session-sound h s st e q g =
    let w = session-right (length h) s st e in
    let fit = page_fits s.form.page st.size (own_pages st) w.pages in
    record {
      parent = q;
      grown = g;
      locked = w.locked;
      end = w.end;
      few = omega (arith, w.count, w.few);
      touched = w.touched;
      small = w.small;
      room = w.room;
      multiple = λ k l. (fit k l).0;
      below = λ k l. (fit k l).1;
      differ = pages-differ s.form.page st.size (own_pages st) w.pages;
    }

-- ---- The rows of the setting that was read are those of the history's.

pub rows_of-history : {h : List ℕ} {s : Setting} (st : State) {n : ℕ} → Sound h s → n ≡ session_rows h s st → n ≡ session_rows h (setting_of h) st
rows_of-history st w e = rw w.setting at e
