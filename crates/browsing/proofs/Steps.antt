-- One step of browsing, as the code comes to it.
use mathlib.Core.Path.{◌≡◌, refl, sym, ap, ◌∙◌}
use mathlib.Core.Bool.{Bool, true, false, cond}
use mathlib.Core.List.{List}
use Prim.Native.Nat.{ℕ, ◌+◌, ◌*◌, ◌/◌, ◌≤◌, ◌<◌}
use native.Mathlib.Nat.{div-lt_iff_lt-mul}
use native.Mathlib.Omega.{arith}
use mathlib.Core.Logic.{◌⊎◌, inl, inr}
use lib.Dec.{ltb, eqb}
use lib.ListN.{length}
use borrow.Author.Tests.{eq-eqb, ne_eqb, lt-ltb, le-ltb, ltb-true, ltb-false}
use Rattle.rules.specs.Bytes.{number_at}
use Rattle.rules.specs.Layout.{entry_sum_at, entry_width, entries_width, entry_count_at, front_width, bare_width, entry_at}
use Rattle.rules.specs.Calls.{step_end, lent_form, step_entry, browse_step, browse_next}
use Rattle.rules.specs.declared.Form.{Form}
use Rattle.rules.specs.declared.Entry.{Entry}
use Rattle.rules.specs.declared.Step.{Step}
use Rattle.browsing.specs.declared.Stands.{Stands}
use Rattle.browsing.specs.declared.Stands.TheVariants.{End, Refused}
use Rattle.browsing.specs.Answers.{stepped}
use Rattle.rules.proofs.Places.{entry-least, entries_product, entries-within, entries-least}

-- Only an entry has kind 0.
pub no_entry : (g : Stands) → (g ≡ End) ⊎ (g ≡ Refused) → (stepped g).kind ≡ 0 → ⊥
no_entry g (inl e) z = let k : ◌≡◌ {A = ℕ} 1 0 = rw e at z in absurd (omega arith)
no_entry g (inr e) z = let k : ◌≡◌ {A = ℕ} 7 0 = rw e at z in absurd (omega arith)

-- ---- Room for entries

-- How many entries there is room for is told by a division.
module _ (f : Form) {width : ℕ} (w : width ≡ entry_width f) (n m : ℕ) where
  apart : (n / entry_width f < m → n < m * entry_width f) × (n < m * entry_width f → n / entry_width f < m)
  apart = div-lt_iff_lt-mul (omega (arith, entry-least f))

  pub room-short : n / width < m → n < entries_width f m
  room-short h = rw (← entries_product f m) (apart.0 (rw w at h))

  pub room_enough : m ≤ n / width → entries_width f m ≤ n
  room_enough h = rw (← entries_product f m) (go (ltb n (m * entry_width f)) refl)
    where
      go : (b : Bool) → ltb n (m * entry_width f) ≡ b → m * entry_width f ≤ n
      go true q = absurd (omega (arith, apart.1 (ltb-true n (m * entry_width f) q), rw w at h))
      go false q = ltb-false n (m * entry_width f) q

-- ---- A step

module _ (bytes : List ℕ) (place : ℕ) where
  abbrev needed : ℕ → ℕ
  needed entries = bare_width lent_form + entries_width lent_form entries

  pub step-none : {r : Step} → r ≡ step_end 1 → length bytes ≡ 0 → r ≡ browse_step bytes place
  unfolding browse_step
  step-none q e = rw (eq-eqb (length bytes) 0 e) q

  -- Fewer bytes than a record of no entries has.
  pub step_bare : {r : Step} → r ≡ step_end 7 → (length bytes ≡ 0 → ⊥) → length bytes < bare_width lent_form → r ≡ browse_step bytes place
  unfolding browse_step
  step_bare q f l = rw (ne_eqb (length bytes) 0 f, lt-ltb (length bytes) (needed (number_at 8 bytes (entry_count_at lent_form))) (omega arith)) q

  module _ {entries : ℕ} (e : entries ≡ number_at 8 bytes (entry_count_at lent_form)) (some : length bytes ≡ 0 → ⊥) where
    -- Fewer than their entry count asks for.
    pub step_refused : {r : Step} → r ≡ step_end 7 → length bytes < needed entries → r ≡ browse_step bytes place
    unfolding browse_step
    step_refused q m = rw (ne_eqb (length bytes) 0 some, ← e, lt-ltb (length bytes) (needed entries) m) q

    module _ (m : needed entries ≤ length bytes) where
      pub step_past : {r : Step} → r ≡ step_end 1 → entries ≤ place → r ≡ browse_step bytes place
      unfolding browse_step
      step_past q p = rw (ne_eqb (length bytes) 0 some, ← e, le-ltb (length bytes) (needed entries) m, le-ltb place entries p) q

      pub step-there : {at entry-sum : ℕ} {x : Entry} → place < entries → at ≡ front_width lent_form + entries_width lent_form place
          → x ≡ entry_at lent_form bytes at → entry-sum ≡ number_at 4 bytes (at + entry_sum_at lent_form)
          → ◌≡◌ {A = Step} (record { kind = 0; logical = x.logical; physical = x.physical; page_sum = x.checksum; entry_sum = entry-sum }) (browse_step bytes place)
      unfolding browse_step
      step-there p a b c = rw (ne_eqb (length bytes) 0 some, ← e, le-ltb (length bytes) (needed entries) m, lt-ltb place entries p, b, c, a)

  -- An entry of those that there is room for lies within the bytes.
  pub entry-room : {entries : ℕ} → needed entries ≤ length bytes → place < entries
      → front_width lent_form + entries_width lent_form place + entry_width lent_form ≤ length bytes
  entry-room {entries} m p = omega (arith, entries-within lent_form place entries p)

  -- ---- The next place

  module _ {r : Step} (q : r ≡ browse_step bytes place) where
    pub next-behind : r.kind ≡ 0 → place + 1 ≡ browse_next bytes place
    unfolding browse_next
    next-behind z = rw (← q, z)

    pub next_stays : (r.kind ≡ 0 → ⊥) → place ≡ browse_next bytes place
    unfolding browse_next
    next_stays f = rw (← q, ne_eqb r.kind 0 f)

    -- There are more bytes than entries, so the place of an entry that a step gives is below their length.
    pub next-within : r.kind ≡ 0 → place < length bytes
    unfolding browse_step
    next-within z = none (eqb (length bytes) 0) refl
      where
        entries : ℕ
        entries = number_at 8 bytes (entry_count_at lent_form)

        kind : (browse_step bytes place).kind ≡ 0
        kind = ap (λ (t : Step). t.kind) (sym q) ∙ z

        inside : (a b : Bool) → ltb (length bytes) (needed entries) ≡ a → ltb place entries ≡ b
            → (cond a (step_end 7) (cond b (step_entry bytes (front_width lent_form + entries_width lent_form place)) (step_end 1))).kind ≡ 0 → place < length bytes
        inside true b s t u = absurd (omega arith)
        inside false false s t u = absurd (omega arith)
        inside false true s t u = omega (arith, ltb-false (length bytes) (needed entries) s, ltb-true place entries t, entries-least lent_form entries)

        none : (a : Bool) → eqb (length bytes) 0 ≡ a → place < length bytes
        none true s = absurd (omega (arith, rw s at kind))
        none false s = inside _ _ refl refl (rw s at kind)
