-- A record's entries, judged one by one.
use mathlib.Core.Path.{◌≡◌, refl, sym, ◌∙◌}
use mathlib.Core.Bool.{Bool, true, false, not, ◌&&◌, and-false}
use mathlib.Core.List.{List}
use Prim.Native.Nat.{ℕ, zero, suc, ◌+◌, ◌-◌, ◌%◌, ◌≤◌, ◌<◌}
use native.Mathlib.Numerals.{add-one}
use native.Mathlib.Omega.{arith}
use lib.Dec.{leb, ltb, eqb}
use borrow.Author.Tests.{le-leb, lt-leb, leb-true, leb-false, ltb-true, not-true, not-false}
use Rattle.rules.specs.Layout.{entry_width, entries_width, front_width, empty_end, entry_at, entries_at}
use Rattle.rules.specs.Rows.{entry_right, entries_right}
use Rattle.rules.specs.declared.Setting.{Setting}
use Rattle.rules.specs.declared.Record.{Record}
use Rattle.rules.specs.declared.Entry.{Entry}
use Rattle.rules.proofs.Places.{entries_none, entries_next}
use Rattle.rules.proofs.Rows.{both}

-- A page that reaches past the record's start, told without a sum.
ends_before : (x p a : ℕ) → p ≤ a → leb x (a - p) ≡ leb (x + p) a
ends_before x p a h = go (leb (x + p) a) refl
  where
    go : (b : Bool) → leb (x + p) a ≡ b → leb x (a - p) ≡ b
    go true e = le-leb x (a - p) (omega (arith, leb-true (x + p) a e))
    go false e = lt-leb x (a - p) (omega (arith, leb-false (x + p) a e))

module _ (s : Setting) (r : Record) (next : ℕ) (e : Entry) where
  -- No page fits ahead of the record's start.
  pub entry-none : r.address < s.form.page → false ≡ entry_right s r next e
  unfolding entry_right
  entry-none h = rw (lt-leb (e.physical + s.form.page) r.address (omega arith)) (sym (and-false (leb next e.logical && eqb (e.logical % s.form.page) 0 && ltb e.logical r.logical && leb (empty_end s.form) e.physical)))

  pub entry_parts : {least : ℕ} {paged : Bool} → s.form.page ≤ r.address → paged ≡ eqb (e.logical % s.form.page) 0 → least ≡ empty_end s.form
      → leb next e.logical && paged && ltb e.logical r.logical && leb least e.physical && leb e.physical (r.address - s.form.page)
      ≡ entry_right s r next e
  unfolding entry_right
  entry_parts h p q = rw (p, q, ends_before e.physical s.form.page r.address h)

  pub entry-below : entry_right s r next e ≡ true → e.logical < r.logical
  unfolding entry_right
  entry-below t =
      let a = both (leb next e.logical && eqb (e.logical % s.form.page) 0 && ltb e.logical r.logical && leb (empty_end s.form) e.physical) (leb (e.physical + s.form.page) r.address) t in
      let b = both (leb next e.logical && eqb (e.logical % s.form.page) 0 && ltb e.logical r.logical) (leb (empty_end s.form) e.physical) a.0 in
      ltb-true _ _ (both (leb next e.logical && eqb (e.logical % s.form.page) 0) (ltb e.logical r.logical) b.0).1

entries_step : (s : Setting) (r : Record) (next : ℕ) (h : List ℕ) (at m : ℕ) → 0 < m
    → entries_right s r next (entries_at s.form h at m)
    ≡ entry_right s r next (entry_at s.form h at) && entries_right s r ((entry_at s.form h at).logical + 1) (entries_at s.form h (at + entry_width s.form) (m - 1))
unfolding entries_right entries_at
entries_step s r next h at zero l = absurd (omega arith)
entries_step s r next h at (suc m) l = let e : suc m - 1 ≡ m = omega arith in rw e

-- The first k of n entries from an address are right, and the next logical address may be `next`.
pub record EntriesLeft (s : Setting) (r : Record) (h : List ℕ) (at n next k : ℕ) : Type 0 where
  pub within : k ≤ n
  pub left : entries_right s r 0 (entries_at s.form h at n) ≡ entries_right s r next (entries_at s.form h (at + entries_width s.form k) (n - k))

pub entries-start : (s : Setting) (r : Record) (h : List ℕ) (at n : ℕ) → EntriesLeft s r h at n 0 0
entries-start s r h at n =
    let a : at + entries_width s.form 0 ≡ at = omega (arith, entries_none s.form) in
    let b : n - 0 ≡ n = omega arith in
    record { within = omega arith; left = rw (a, b) }

module _ {s : Setting} {r : Record} {h : List ℕ} {at n next k : ℕ} {e : Entry} {b : Bool} (l : EntriesLeft s r h at n next k) (more : k < n)
    (q : e ≡ entry_at s.form h (at + entries_width s.form k)) (f : b ≡ entry_right s r next e) where
  abbrev here : ℕ
  here = at + entries_width s.form k

  step : entries_right s r 0 (entries_at s.form h at n) ≡ b && entries_right s r (e.logical + 1) (entries_at s.form h (here + entry_width s.form) (n - k - 1))
  step =
      let g : b ≡ entry_right s r next (entry_at s.form h here) = rw q at f in
      rw (q, g) (l.left ∙ entries_step s r next h here (n - k) (omega arith))

  pub entries-fault : at ≡ r.address + front_width s.form → not b ≡ true → false ≡ entries_right s r 0 (entries_at s.form h (r.address + front_width s.form) n)
  entries-fault a g = rw (← a) (sym (step ∙ rw (not-true b g)))

  pub entries_turn : not b ≡ false → EntriesLeft s r h at n (e.logical + 1) (k + 1)
  entries_turn g =
      let a : here + entry_width s.form ≡ at + entries_width s.form (k + 1) = rw add-one (omega (arith, entries_next s.form k)) in
      let c : n - k - 1 ≡ n - (k + 1) = omega arith in
      record { within = omega arith; left = step ∙ rw (not-false b g, a, c) }

  pub entries-small : not b ≡ false → e.logical < r.logical
  entries-small g = entry-below s r next e (sym f ∙ not-false b g)

pub entries-end : {s : Setting} {r : Record} {h : List ℕ} {at n next k : ℕ} → EntriesLeft s r h at n next k → at ≡ r.address + front_width s.form
    → n ≤ k → true ≡ entries_right s r 0 (entries_at s.form h (r.address + front_width s.form) n)
unfolding entries_right entries_at
entries-end {s} {r} {h} {at} {n} {next} {k} l a m = let e : n - k ≡ 0 = omega arith in rw (← a) (sym (l.left ∙ rw e))
