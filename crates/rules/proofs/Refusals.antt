-- Refusals and their numbers.
use mathlib.Core.Path.{◌≡◌, ap, refl, sym, ◌∙◌}
use mathlib.Core.List.{List, [], ◌∷◌}
use Prim.Native.Nat.{ℕ, ◌+◌, ◌-◌}
use lib.ListN.{get_or}
use native.Mathlib.Omega.{arith}
use denote.Enum.Declared.{tag_of}
use Rattle.rules.specs.contracts.Refusal.{the_type}
use Rattle.rules.specs.declared.Refusal.{Refusal}
use Rattle.rules.specs.declared.Refusal.TheVariants.{
  Length,
  Header,
  HeaderSum,
  Original,
  Whole,
  Revision,
  Record,
  RecordSum,
  PageSum,
  Outside,
  Locked,
  NotNewest,
  Session,
  TooMany,
  NoRoom,
  Texts,
  Creation,
  Full,
  TooFar,
  NotInOriginal,
}
use Rattle.std.specs.Prelude.{Result, Ok, Err, IsErrAnd, Option, Some, None}
use Rattle.rules.specs.Calls.{◌then◌}
use Rattle.rules.specs.Refusals.{number_of, told, number_kept}
use Rattle.rules.proofs.Rows.{rows_hold}

-- The rows count from 1 on in the order in which they are declared.
pub tag-number : (e : Refusal) → tag_of the_type e + 1 ≡ number_of e
tag-number Length = refl
tag-number Header = refl
tag-number HeaderSum = refl
tag-number Original = refl
tag-number Whole = refl
tag-number Revision = refl
tag-number Record = refl
tag-number RecordSum = refl
tag-number PageSum = refl
tag-number Outside = refl
tag-number Locked = refl
tag-number NotNewest = refl
tag-number Session = refl
tag-number TooMany = refl
tag-number NoRoom = refl
tag-number Texts = refl
tag-number Creation = refl
tag-number Full = refl
tag-number TooFar = refl
tag-number NotInOriginal = refl

-- No two refusals have one number: what is told determines the refusal.
abbrev refusals : List Refusal
refusals =
    Length ∷
    Header ∷
    HeaderSum ∷
    Original ∷
    Whole ∷
    Revision ∷
    Record ∷
    RecordSum ∷
    PageSum ∷
    Outside ∷
    Locked ∷
    NotNewest ∷
    Session ∷
    TooMany ∷
    NoRoom ∷
    Texts ∷
    Creation ∷
    Full ∷
    TooFar ∷
    NotInOriginal ∷ []

abbrev refusal_at : ℕ → Refusal
refusal_at n = get_or refusals (n - 1) Length

at-number : (e : Refusal) → refusal_at (number_of e) ≡ e
at-number Length = refl
at-number Header = refl
at-number HeaderSum = refl
at-number Original = refl
at-number Whole = refl
at-number Revision = refl
at-number Record = refl
at-number RecordSum = refl
at-number PageSum = refl
at-number Outside = refl
at-number Locked = refl
at-number NotNewest = refl
at-number Session = refl
at-number TooMany = refl
at-number NoRoom = refl
at-number Texts = refl
at-number Creation = refl
at-number Full = refl
at-number TooFar = refl
at-number NotInOriginal = refl

pub same_refusal : (a b : Refusal) → number_of a ≡ number_of b → a ≡ b
same_refusal a b h = sym (at-number a) ∙ ap refusal_at h ∙ at-number b

-- No refusal has the number 0.
pub refused : (e : Refusal) → number_of e ≡ 0 → ⊥
refused e h = let t : tag_of the_type e + 1 ≡ 0 = tag-number e ∙ h in absurd (omega arith)

-- A refusal that is handed on stays the same.
pub handed_on : {A : Type 0} (r : Result A Refusal) (e : Refusal) → IsErrAnd r (λ x. x ≡ e) → r ≡ Err e
handed_on (Ok x) e h = absurd h
handed_on (Err x) e h = ap Err h

pub number-handed_on : {A : Type 0} (r : Result A Refusal) (e : Refusal) → IsErrAnd r (λ x. x ≡ e) → told r ≡ number_of e
number-handed_on r e h = ap told (handed_on r e h)

-- Rows ahead of others refused, and their refusal is handed on.
pub refused-ahead : {A : Type 0} (r : Result A Refusal) (e : Refusal) (rest : ℕ) {a : ℕ} → IsErrAnd r (λ x. x ≡ e) → number_of e ≡ a → told r ≡ a then rest
refused-ahead r e rest h f = number-handed_on r e h ∙ rows_hold rest (number_of e) f (refused e)

-- ---- What is told leaves no choice

pub kept_alike : (one other : Option Refusal) → number_kept one ≡ number_kept other → one ≡ other
kept_alike None None h = refl
kept_alike None (Some f) h = absurd (refused f (sym h))
kept_alike (Some e) None h = absurd (refused e h)
kept_alike (Some e) (Some f) h = ap Some (same_refusal e f h)
