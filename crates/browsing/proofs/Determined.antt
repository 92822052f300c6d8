-- The promises of browsing leave no choice: two outcomes that one of them allows are the same.
use mathlib.Core.Path.{◌≡◌, refl, ap, sym, ◌∙◌}
use mathlib.Core.List.{List}
use Prim.Native.Nat.{ℕ}
use native.Mathlib.Omega.{arith}
use denote.Ref.{Bor}
use Rattle.std.specs.Prelude.{Result, Ok, Err}
use Rattle.rules.specs.declared.Refusal.{Refusal}
use Rattle.rules.specs.declared.Part.{Part}
use Rattle.rules.specs.declared.Browsed.{Browsed}
use Rattle.rules.specs.declared.Step.{Step}
use Rattle.rules.proofs.Refusals.{refused, same_refusal}
use Rattle.browsing.specs.declared.Stands.{Stands}
use Rattle.browsing.specs.declared.Stands.TheVariants.{Entry, End, Refused}
use Rattle.browsing.specs.Answers.{browsed, stepped}
use Rattle.browsing.specs.Lent.{PartAt}

pub part_determined : {whole : Bor (List ℕ)} {at n : ℕ} {one other : Bor (List ℕ)} → PartAt whole at n one → PartAt whole at n other
    → (one.now ≡ other.now) × (one.ref_ptr ≡ other.ref_ptr)
part_determined a b = (a.holds ∙ sym b.holds, λ i. ((a.block ∙ sym b.block) i, (a.start ∙ sym b.start) i))

-- Where a record stands, and what stands at a place of it, are determined by the paper's numbers.
places : (one other : Result Part Refusal) → browsed one ≡ browsed other → one ≡ other
places (Ok a) (Ok b) e = λ i. Ok (record { offset = (e i).offset; length = (e i).length })
places (Ok a) (Err f) e = absurd (refused f (sym (ap (λ (t : Browsed). t.number) e)))
places (Err d) (Ok b) e = absurd (refused d (ap (λ (t : Browsed). t.number) e))
places (Err d) (Err f) e = ap Err (same_refusal d f (ap (λ (t : Browsed). t.number) e))

pub place_determined : (rule : Browsed) (one other : Result Part Refusal) → browsed one ≡ rule → browsed other ≡ rule → one ≡ other
place_determined rule one other a b = places one other (a ∙ sym b)

abbrev kind : Step → ℕ
kind t = t.kind

steps : (one other : Stands) → stepped one ≡ stepped other → one ≡ other
steps (Entry a m) (Entry b n) e = λ i. Entry (record { logical = (e i).logical; physical = (e i).physical; checksum = (e i).page_sum }) ((e i).entry_sum)
steps (Entry a m) End e = let k : ◌≡◌ {A = ℕ} 0 1 = ap kind e in absurd (omega arith)
steps (Entry a m) Refused e = let k : ◌≡◌ {A = ℕ} 0 7 = ap kind e in absurd (omega arith)
steps End (Entry b n) e = let k : ◌≡◌ {A = ℕ} 1 0 = ap kind e in absurd (omega arith)
steps End End e = refl
steps End Refused e = let k : ◌≡◌ {A = ℕ} 1 7 = ap kind e in absurd (omega arith)
steps Refused (Entry b n) e = let k : ◌≡◌ {A = ℕ} 7 0 = ap kind e in absurd (omega arith)
steps Refused End e = let k : ◌≡◌ {A = ℕ} 7 1 = ap kind e in absurd (omega arith)
steps Refused Refused e = refl

pub step_determined : (rule : Step) (one other : Stands) → stepped one ≡ rule → stepped other ≡ rule → one ≡ other
step_determined rule one other a b = steps one other (a ∙ sym b)
