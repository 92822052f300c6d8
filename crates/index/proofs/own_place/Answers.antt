-- The page stands in no block that was passed, and at the first place behind them that has it.
use mathlib.Core.Path.{◌≡◌, sym}
use borrow.Author.Rules.{rules}
use borrow.Author.Tests.{tests, lt-ltb}
use native.Mathlib.Omega.{arith}
use Rattle.std.proofs.lemmas.Iterator.{IsFirst-from_position, YieldsList-from_slice}
use Rattle.std.proofs.lemmas.Option.{MatchOption-at_some, MatchOption-at_none}
use Rattle.rules.proofs.Entries.{has-nowhere}
use Rattle.index.proofs.Search.{own_hit, own_miss}
use Rattle.index.proofs.own_place.Goals as goal

pub returns-in_default-clause-found : goal.returns-in_default-clause-found
returns-in_default-clause-found c =
    sym (has-nowhere c.args.pages.now c.args.page (λ k l e. c.in_default.ensures (omega (arith, c.type_inv.pages k))))

pub returns-in_err-inside-clause-found : goal.returns-in_err-inside-clause-found
returns-in_err-inside-clause-found c =
    let passed = rw c.in-Ok.ensures.1 at c.passed_blocks-from.ensures in
    let first =
    IsFirst-from_position _ _ _ (λ own. own ≡ c.args.page) (λ own. own ≡ c.args.page → ⊥) c.position.ensures.ran (YieldsList-from_slice _ c.iter.ensures.rest)
    (λ x q k. search (rules, tests)) (λ x q k. search (rules, tests)) in
    rw c.from_residual.ensures (sym (own_miss c.args.pages.now c.args.page _ passed.0 passed.1 (MatchOption-at_none _ _ c.in_err-inside.was first)))

pub returns : goal.returns
returns c =
    let passed = rw c.in-Ok.ensures.1 at c.passed_blocks-from.ensures in
    let first =
    IsFirst-from_position _ _ _ (λ own. own ≡ c.args.page) (λ own. own ≡ c.args.page → ⊥) c.position.ensures.ran (YieldsList-from_slice _ c.iter.ensures.rest)
    (λ x q k. search (rules, tests)) (λ x q k. search (rules, tests)) in
    let h = MatchOption-at_some _ _ _ c.in_ok-inside.was first in
    let t = own_hit c.args.pages.now c.args.page _ passed.0 passed.1 _ h.0 h.1 h.2 in
    record { place = t; found = sym (lt-ltb _ _ (omega arith)) }
