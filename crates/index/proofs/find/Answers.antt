-- The page stands at the first place that is not below it, or nowhere.
use mathlib.Core.Path.{◌≡◌, sym, ◌∙◌}
use mathlib.Core.List.{List}
use Prim.Native.Nat.{ℕ}
use native.Mathlib.Omega.{arith}
use lib.ListN.{length}
use Rattle.rules.specs.Layout.{entries_in}
use Rattle.rules.specs.View.{logicals}
use Rattle.rules.proofs.Entries.{length-logicals_entries, has-at}
use Rattle.index.proofs.Search.{search_hit, search_miss}
use Rattle.index.proofs.find.Goals as goal
use Rattle.index.proofs.find.Goals.{
  After-place_from-place,
  else-place-x-via-then-place-x+else-logical-page,
  else-place-x-via-else-place-x,
}

abbrev addresses : After-place_from-place → List ℕ
addresses c = let a = c.args in logicals (entries_in a.history.now a.x)

long : (c : After-place_from-place) → length (addresses c) ≡ c.args.x.entries
long c = length-logicals_entries _ _ _ _

pub returns-then-logical-page-clause-place : goal.returns-then-logical-page-clause-place
returns-then-logical-page-clause-place c =
    let l = long (goal.at.returns-then-logical-page-clause-place c).After-place_from-place in
    (search_hit c.place_from-place.ensures (omega arith) (sym c.logical.ensures ∙ c.if-logical-page.true), omega arith)

pub returns-then-logical-page-clause-found : goal.returns-then-logical-page-clause-found
returns-then-logical-page-clause-found c =
    let l = long (goal.at.returns-then-logical-page-clause-found c).After-place_from-place in
    sym (has-at _ _ _ (omega arith) (sym c.logical.ensures ∙ c.if-logical-page.true))

pub returns-else-place-x-clause-found : goal.returns-else-place-x-clause-found
returns-else-place-x-clause-found c =
    let l = long (goal.at.returns-else-place-x-clause-found c).After-place_from-place in
    search_miss c.place_from-place.ensures c.requires.rising (elim c.else-place-x.branch [
      | else-place-x-via-then-place-x+else-logical-page w ↦ λ h e. w.if-logical-page.false (w.logical.ensures ∙ e)
      | else-place-x-via-else-place-x w ↦ λ h e. omega arith
    ])
