-- The parts are taken one by one, and each is judged by itself.
use Rattle.std.proofs.Common.{rules, tests, arith, ◌∙◌, ◌+◌, ◌≤◌, length, length-take, length-drop}
use Rattle.std.specs.Slice.Iter.{chunks_exact_rest}
use Rattle.std.proofs.lemmas.Iterator.Adapters.{serves_from_places}
use Rattle.std.proofs.lemmas.Iterator.Search.{all_from_yields_List}
use Rattle.rules.specs.Layout.{sum_stands}
use Rattle.parts.proofs.Sums.{chunk-within, chunks-yielded, sums-all}
use Rattle.parts.proofs.sums_stand.Goals as goal

pub all-requires-clause-callable : goal.all-requires-clause-callable
all-requires-clause-callable c =
    let a = c.args in
    let chunks = c.chunks_exact in
    let inside : a.at + length (chunks_exact_rest chunks.result) ≤ length a.history.now = rw chunks.ensures.rest (simp (length-take, length-drop) (omega arith)) in
    serves_from_places (chunks-yielded a.width (omega arith) chunks.result chunks.ensures.size) (λ x q r. search rules)
    (λ x k l e. let w = chunk-within a.width (chunks_exact_rest chunks.result) x.now k l e in search rules)

pub returns : goal.returns
returns c =
    let a = c.args in
    let yielded = chunks-yielded a.width (omega arith) c.chunks_exact.result c.chunks_exact.ensures.size in
    all_from_yields_List (λ p. sum_stands p 0 16 a.offset) _ _ _ c.all.ensures.ran yielded (λ x b q k. search (rules, tests))
    ∙ sums-all a.width a.offset (search rules) (search rules) a.history.now a.at a.n (search rules) c.chunks_exact.ensures.rest
