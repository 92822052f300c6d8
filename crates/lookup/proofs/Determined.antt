-- The promise of a look-up's part leaves no choice: two parts that are allowed are equal in what they hold and in where they lie.
use mathlib.Core.Path.{◌≡◌, refl, ap, sym, ◌∙◌}
use mathlib.Core.List.{List}
use Prim.Native.Nat.{ℕ}
use native.Mathlib.Omega.{arith}
use Rattle.std.specs.Prelude.{Result, Ok, Err}
use Rattle.rules.specs.declared.Refusal.{Refusal}
use Rattle.rules.specs.declared.Found.{Found}
use Rattle.rules.proofs.Refusals.{refused, same_refusal}
use Rattle.lookup.specs.Lies.{source_number, found}
use Rattle.lookup.specs.declared.Source.{Source}
use Rattle.lookup.specs.declared.Source.TheVariants.{Original, History}
use Rattle.lookup.specs.declared.Page.{Page}

pub part_determined : {A : Type 0} {bytes bytes' : List ℕ} {block block' : A} {start start' : ℕ} (page : List ℕ) (lies : A) (from : ℕ)
    → bytes ≡ page → bytes' ≡ page → block ≡ lies → block' ≡ lies → start ≡ from → start' ≡ from
    → (bytes ≡ bytes') × (block ≡ block') × (start ≡ start')
part_determined page lies from a b c d e f = (a ∙ sym b, c ∙ sym d, e ∙ sym f)

-- What a look-up answers is determined by its numbers.
same_source : (a b : Source) → source_number a ≡ source_number b → a ≡ b
same_source Original Original e = refl
same_source Original History e = absurd (omega arith)
same_source History Original e = absurd (omega arith)
same_source History History e = refl

founds : (one other : Result Page Refusal) → found one ≡ found other → one ≡ other
founds (Ok a) (Ok b) e =
    let s = same_source a.source b.source (ap (λ (f : Found). f.source) e) in
    λ i. Ok (record { source = s i; offset = (e i).offset; length = (e i).length })
founds (Ok a) (Err f) e = absurd (refused f (sym (ap (λ (t : Found). t.number) e)))
founds (Err d) (Ok b) e = absurd (refused d (ap (λ (t : Found). t.number) e))
founds (Err d) (Err f) e = ap Err (same_refusal d f (ap (λ (t : Found). t.number) e))

pub found_determined : (rule : Found) (one other : Result Page Refusal) → found one ≡ rule → found other ≡ rule → one ≡ other
found_determined rule one other a b = founds one other (a ∙ sym b)
