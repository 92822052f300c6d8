-- A block that was passed does not have the page.
use borrow.Author.Rules.{rules}
use borrow.Author.Tests.{tests}
use native.Mathlib.Omega.{arith}
use Rattle.std.proofs.lemmas.Option.{IfSome_then}
use Rattle.index.proofs.Search.{blocks-passed}
use Rattle.index.proofs.passed_blocks.Goals as goal

pub returns : goal.returns
returns c =
    let counted = c.count.ensures.runs in
    let taken = c.take_while.ensures.runs counted.0 counted.0.seen counted.1 in
    let run = taken.0 in
    let b = c.chunks_exact.ensures.runs run run.seen in
    let f = simp (taken.1, c.chunks_exact.ensures.size, c.chunks_exact.ensures.rest) at b in
    let blocks = f (omega arith) in
    let p = taken.2 in
    let whole = counted.3 in (
      omega (arith, blocks.0, p.0, whole),
      rw whole (blocks-passed run c.args.pages.now c.args.page blocks.2 counted.0.len p.0
          (λ k l. rw (p.1 k l) (IfSome_then (counted.0.at k) ((p.2 (λ a r f' h. search rules)).0 k) (λ x q. search (rules, tests))))),
    )
