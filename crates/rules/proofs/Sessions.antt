-- Row 13, part by part, and the pages that fit a session.
use mathlib.Core.Path.{◌≡◌, refl, sym, ◌∙◌}
use mathlib.Core.Bool.{Bool, true, false, cond, ◌||◌, true≢false}
use mathlib.Core.Logic.{⊎_elim}
use mathlib.Core.List.{List, [], ◌∷◌, ◌++◌}
use Prim.Native.Nat.{ℕ, zero, suc, ◌+◌, ◌*◌, ◌%◌, ◌≤◌, ◌<◌}
use native.Mathlib.Nat.{suc-mul, add-mod_right}
use native.Mathlib.Omega.{arith}
use lib.Dec.{eqb}
use borrow.Author.Tests.{le-leb, lt-ltb, eq-eqb, ne_eqb, leb-true, ltb-true, eqb-true, eqb-false, not-false}
use Rattle.rules.specs.Layout.{limit, revision_limit, touch_limit, committed_end}
use Rattle.rules.specs.View.{has, own_pages, own_address, pages_from}
use Rattle.rules.specs.Session.{touching}
use Rattle.rules.specs.Rows.{pages_fit, session_wrong}
use Rattle.rules.specs.declared.Setting.{Setting}
use Rattle.rules.specs.declared.State.{State}
use Rattle.rules.proofs.Rows.{both}
use Rattle.rules.proofs.Entries.{either, has_cons, has_snoc, has-nowhere, first_fits}

-- ---- Row 13

pub record SessionRight (buffer : ℕ) (s : Setting) (st : State) : Type 0 where
  pub locked : s.lock ≡ true
  pub end : st.end ≡ committed_end s
  pub count : st.count ≡ s.count
  pub few : st.count < revision_limit
  pub parent : st.parent ≤ st.count
  pub newest : s.branching || eqb st.parent st.count ≡ true
  pub touched : st.n ≤ touch_limit
  pub small : st.size ≤ limit
  pub room : own_address s st st.n ≤ buffer
  pub pages : pages_fit s.form.page st.size (own_pages st) ≡ true

module _ (buffer : ℕ) (s : Setting) (st : State) where
  pub session-right : session_wrong buffer s st ≡ false → SessionRight buffer s st
  unfolding session_wrong
  session-right e =
      let a9 = both _ _ (not-false _ e) in
      let a8 = both _ _ a9.0 in
      let a7 = both _ _ a8.0 in
      let a6 = both _ _ a7.0 in
      let a5 = both _ _ a6.0 in
      let a4 = both _ _ a5.0 in
      let a3 = both _ _ a4.0 in
      let a2 = both _ _ a3.0 in
      let a1 = both _ _ a2.0 in
      record {
        locked = a1.0;
        end = eqb-true _ _ a1.1;
        count = eqb-true _ _ a2.1;
        few = ltb-true _ _ a3.1;
        parent = leb-true _ _ a4.1;
        newest = a5.1;
        touched = leb-true _ _ a6.1;
        small = leb-true _ _ a7.1;
        room = leb-true _ _ a8.1;
        pages = a9.1;
      }

  pub right-session : SessionRight buffer s st → session_wrong buffer s st ≡ false
  unfolding session_wrong
  right-session w =
      rw (w.locked, eq-eqb _ _ w.end, eq-eqb _ _ w.count, lt-ltb _ _ w.few, le-leb _ _ w.parent, w.newest, le-leb _ _ w.touched, le-leb _ _ w.small, le-leb _ _ w.room, w.pages)

-- ---- Pages touched fit the session that they extend

-- A larger session has room for them too.
pub fits_larger : (p size size' : ℕ) (pages : List ℕ) → size ≤ size' → pages_fit p size pages ≡ true → pages_fit p size' pages ≡ true
unfolding pages_fit
fits_larger p size size' [] l e = refl
fits_larger p size size' (a ∷ pages) l e =
    let f = first_fits p size a pages e in
    rw (f.alone, eq-eqb _ _ f.multiple, lt-ltb a size' (omega (arith, f.below)), fits_larger p size size' pages l f.rest)

pub or-none : (a b : Bool) → a || b ≡ false → (a ≡ false) × (b ≡ false)
or-none true b e = absurd (true≢false e)
or-none false b e = (refl, e)

eqb_turned : (a b : ℕ) → eqb b a ≡ false → eqb a b ≡ false
eqb_turned a b e = ne_eqb a b (λ q. eqb-false b a e (sym q))

-- One page more, which is none of them.
fits_more : (p size : ℕ) (pages : List ℕ) (a : ℕ) → pages_fit p size pages ≡ true → has pages a ≡ false → a % p ≡ 0 → a < size → pages_fit p size (pages ++ (a ∷ [])) ≡ true
unfolding pages_fit
fits_more p size [] a e t m l = rw (has-nowhere [] a (λ k l e. omega arith), eq-eqb _ _ m, lt-ltb a size l)
fits_more p size (b ∷ pages) a e t m l =
    let f = first_fits p size b pages e in
    let apart = or-none _ _ (sym (has_cons b pages a) ∙ t) in
    rw (has_snoc pages a b, f.alone, eqb_turned a b apart.0, eq-eqb _ _ f.multiple, lt-ltb b size f.below, fits_more p size pages a f.rest apart.1 m l)

pub fits-touching : (p size : ℕ) → 0 < p → (m a : ℕ) (own : List ℕ) → a % p ≡ 0 → a + m * p < size + p → pages_fit p size own ≡ true
    → pages_fit p size (touching own (pages_from p a m)) ≡ true
unfolding touching pages_from
fits-touching p size some zero a own z l e = e
fits-touching p size some (suc m) a own z l e =
    let next : a + p + m * p ≡ a + suc m * p = omega (arith, suc-mul m p) in
    let go = fits-touching p size some m (a + p) in
    let first : touching own (pages_from p a (suc m)) ≡ touching (cond (has own a) own (own ++ (a ∷ []))) (pages_from p (a + p) m) = refl in
    ⊎_elim
    (λ (t : has own a ≡ true). rw (first, t) (go own (add-mod_right a p ∙ z) (rw next l) e))
    (λ (t : has own a ≡ false). rw (first, t) (go (own ++ (a ∷ [])) (add-mod_right a p ∙ z) (rw next l) (fits_more p size own a e t z (omega arith))))
    (either (has own a))
