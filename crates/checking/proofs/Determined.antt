-- The promise of the check leaves no choice: what it answers is determined by the paper's numbers.
use mathlib.Core.Path.{◌≡◌, refl, ap, sym, ◌∙◌}
use Rattle.std.specs.Prelude.{Result, Ok, Err}
use Rattle.rules.specs.declared.Checked.{Checked}
use Rattle.rules.proofs.Refusals.{refused, same_refusal}
use Rattle.checking.specs.Faults.{checked}
use Rattle.checking.specs.declared.Fault.{Fault}

checks : (one other : Result (Unit {0}) Fault) → checked one ≡ checked other → one ≡ other
checks (Ok a) (Ok b) e = refl
checks (Ok a) (Err f) e = absurd (refused f.refusal (sym (ap (λ (t : Checked). t.number) e)))
checks (Err d) (Ok b) e = absurd (refused d.refusal (ap (λ (t : Checked). t.number) e))
checks (Err d) (Err f) e =
    let r = same_refusal d.refusal f.refusal (ap (λ (t : Checked). t.number) e) in
    λ i. Err (record { refusal = r i; revision = (e i).revision; entry = (e i).entry })

pub check_determined : (rule : Checked) (one other : Result (Unit {0}) Fault) → checked one ≡ rule → checked other ≡ rule → one ≡ other
check_determined rule one other a b = checks one other (a ∙ sym b)
