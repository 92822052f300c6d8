-- What a session call answers, refused and accepted, beside the rules' outcome of the same call.
use mathlib.Core.Path.{◌≡◌}
use mathlib.Core.List.{List}
use Prim.Native.Nat.{ℕ}
use Rattle.rules.specs.Calls.{accepted, Outcome}
use Rattle.rules.specs.declared.State.{State}
use Rattle.rules.proofs.Rows.{left_alone}

-- The outcome of a call whose rows are judged, with the session and the bytes of an acceptance and of a refusal.
abbrev outcome : ℕ → State → State → List ℕ → List ℕ → Outcome
outcome rows newState oldState newBytes oldBytes =
    record { number = rows; session = accepted rows newState oldState; bytes = accepted rows newBytes oldBytes }

module _ {rows : ℕ} (newState oldState : State) (newBytes oldBytes : List ℕ) where
  pub answer_refused : (n : ℕ) {st : State} → n ≡ rows → (n ≡ 0 → ⊥) → st ≡ oldState
      → record { number = n; session = st; bytes = oldBytes } ≡ outcome rows newState oldState newBytes oldBytes
  answer_refused n e h q = rw (← e, q, ← left_alone n newState oldState h, ← left_alone n newBytes oldBytes h)

  pub answer-accepted : {st : State} {bytes : List ℕ} → 0 ≡ rows → st ≡ newState → bytes ≡ newBytes
      → record { number = 0; session = st; bytes = bytes } ≡ outcome rows newState oldState newBytes oldBytes
  answer-accepted e q r = rw (← e, q, r)
