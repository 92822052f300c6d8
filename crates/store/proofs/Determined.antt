-- The promises of the session's methods leave no choice: two answers that one allows, with the bytes left beside them, are equal.
use mathlib.Core.Path.{◌≡◌, sym, ap, ◌∙◌}
use mathlib.Core.List.{List}
use Prim.Native.Nat.{ℕ}
use Rattle.rules.specs.Calls.{Outcome}
use Rattle.store.specs.declared.Answer.{Answer}

-- The outcome of an answer, in the rules' words.
abbrev pub outcome_of : Answer → List ℕ → Outcome
outcome_of a bytes = record { number = a.number; session = a.session.state; bytes = bytes }

pub answer_determined : (outcome : Outcome) {one other : Answer} {bytes left : List ℕ} → outcome_of one bytes ≡ outcome → outcome_of other left ≡ outcome
    → (one ≡ other) × (bytes ≡ left)
answer_determined outcome {one} {other} {bytes} {left} p q =
    let e : outcome_of one bytes ≡ outcome_of other left = p ∙ sym q in
    let answer_of : Outcome → Answer = λ o. record { number = o.number; session = record { state = o.session } } in
    (ap answer_of e, ap (λ (o : Outcome). o.bytes) e)
