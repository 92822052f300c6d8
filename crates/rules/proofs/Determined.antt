-- A promise that tells an answer's number leaves no choice of the refusal.
use mathlib.Core.Path.{◌≡◌, refl, ap, sym, ◌∙◌}
use mathlib.Core.List.{List}
use Prim.Native.Nat.{ℕ}
use Rattle.std.specs.Prelude.{Result, Ok, Err}
use Rattle.rules.specs.Refusals.{told}
use Rattle.rules.specs.Calls.{Reply, Outcome, outcome}
use Rattle.rules.specs.declared.Refusal.{Refusal}
use Rattle.rules.specs.declared.State.{State}
use Rattle.rules.proofs.Refusals.{refused, same_refusal}

-- Of two answers that tell one number, the other is refused alike where one is.
alike : {A : Type 0} (one other : Result A Refusal) (e : Refusal) → told one ≡ told other → one ≡ Err e → other ≡ Err e
alike one (Ok x) e h q = absurd (refused e (sym (ap told q) ∙ h))
alike one (Err f) e h q = ap Err (same_refusal f e (sym h ∙ ap told q))

pub told_determined : {A : Type 0} {rule : ℕ} (one other : Result A Refusal) (e : Refusal) → told one ≡ rule → told other ≡ rule → one ≡ Err e → other ≡ Err e
told_determined one other e a b q = alike one other e (a ∙ sym b) q

-- Two answers with nothing beside them are equal where they tell one number.
same_told : (one other : Result (Unit {0}) Refusal) → told one ≡ told other → one ≡ other
same_told (Ok a) (Ok b) e = refl
same_told (Ok a) (Err f) e = absurd (refused f (sym e))
same_told (Err d) (Ok b) e = absurd (refused d e)
same_told (Err d) (Err f) e = ap Err (same_refusal d f e)

-- What a call answers and leaves that hands no session back, as creation and the read of a revision.
pub reply_determined : (rule : Reply) (one other : Result (Unit {0}) Refusal) {x y : List ℕ} → ◌≡◌ {A = Reply} (record { number = told one; bytes = x }) rule
    → ◌≡◌ {A = Reply} (record { number = told other; bytes = y }) rule → (one ≡ other) × (x ≡ y)
reply_determined rule one other a b =
    let e = a ∙ sym b in
    (same_told one other (ap (λ (r : Reply). r.number) e), ap (λ (r : Reply). r.bytes) e)

-- What a call answers and leaves to which a session is lent.
pub lent_determined : (rule : Outcome) (one other : Result (Unit {0}) Refusal) {st left : State} {x y : List ℕ}
    → ◌≡◌ {A = Outcome} (record { number = told one; session = st; bytes = x }) rule → ◌≡◌ {A = Outcome} (record { number = told other; session = left; bytes = y }) rule
    → (one ≡ other) × (st ≡ left) × (x ≡ y)
lent_determined rule one other a b =
    let e = a ∙ sym b in
    (same_told one other (ap (λ (o : Outcome). o.number) e), ap (λ (o : Outcome). o.session) e, ap (λ (o : Outcome). o.bytes) e)

-- What an opening answers and leaves: two outcomes that are equal are of the same answer and the same bytes.
outcomes : (st : State) (one other : Result State Refusal) {x y : List ℕ} → outcome st one x ≡ outcome st other y → (one ≡ other) × (x ≡ y)
outcomes st (Ok a) (Ok b) e = (ap (λ (o : Outcome). Ok o.session) e, ap (λ (o : Outcome). o.bytes) e)
outcomes st (Ok a) (Err f) e = absurd (refused f (sym (ap (λ (o : Outcome). o.number) e)))
outcomes st (Err d) (Ok b) e = absurd (refused d (ap (λ (o : Outcome). o.number) e))
outcomes st (Err d) (Err f) e = (ap Err (same_refusal d f (ap (λ (o : Outcome). o.number) e)), ap (λ (o : Outcome). o.bytes) e)

pub outcome_determined : (rule : Outcome) (st : State) (one other : Result State Refusal) {x y : List ℕ} → outcome st one x ≡ rule → outcome st other y ≡ rule
    → (one ≡ other) × (x ≡ y)
outcome_determined rule st one other a b = outcomes st one other (a ∙ sym b)
