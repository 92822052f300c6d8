-- The first page that the session has ends the run; where it has no other, none is.
use mathlib.Core.Path.{◌≡◌}
use mathlib.Core.Bool.{true, false}
use mathlib.Core.List.{List}
use Prim.Native.Nat.{ℕ, zero, suc, ◌+◌, ◌*◌, ◌≤◌, ◌<◌}
use native.Mathlib.Nat.{zero-mul, add-zero}
use native.Mathlib.Omega.{arith}
use borrow.Author.Rules.{rules}
use borrow.Author.Tests.{tests}
use Rattle.std.specs.Option.{MatchOption, unwrap_or}
use Rattle.std.specs.declared.option.Option.{Option}
use Rattle.std.specs.declared.option.Option.TheVariants.{Some, None}
use Rattle.std.proofs.lemmas.Iterator.{first_from_Range}
use Rattle.rules.specs.View.{has}
use Rattle.touching.specs.Pages.{AllNew}
use Rattle.touching.proofs.new_pages.Goals as goal

module _ (own : List ℕ) (p a : ℕ) (none : has own a ≡ false) where
  all_new : {n : ℕ} → ((k : ℕ) → 1 ≤ k → k < n → has own (a + k * p) ≡ false) → AllNew own p a n
  all_new f zero l = rw (zero-mul, add-zero) none
  all_new f (suc i) l = f (suc i) (omega arith) l

  run : (most : ℕ) (r : Option ℕ) → 1 ≤ most
      → MatchOption r ((k : ℕ) → 1 ≤ k → k < most → has own (a + k * p) ≡ false) (λ i. (1 ≤ i) × (i < most) × (has own (a + i * p) ≡ true) × ((k : ℕ) → 1 ≤ k → k < i → has own (a + k * p) ≡ false))
      → (1 ≤ unwrap_or r most) × (unwrap_or r most ≤ most) × AllNew own p a (unwrap_or r most)
  run most None some f = (some, omega arith, all_new f)
  run most (Some i) some f = (f.0, omega (arith, f.1), all_new f.3)

pub returns : goal.returns
returns c =
    let a = c.args in
    rw c.unwrap_or.ensures
    (run a.pages.now a.page a.first c.requires.0 a.most c.find.result c.requires.1
    (first_from_Range _ _ _ c.find.result (λ k. has a.pages.now (a.first + k * a.page) ≡ true) (λ k. has a.pages.now (a.first + k * a.page) ≡ false) c.find.ensures.ran (λ x q k. search (rules, tests)) (λ x q k. search (rules, tests))))
