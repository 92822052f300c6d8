-- Page and buffer do not meet, or no page can stand there, or the part where they meet is laid.
use borrow.Author.Rules.{rules}
use Rattle.view.proofs.Overlay.{own_apart, own_uneven, own-laid}
use Rattle.view.proofs.put_own.Goals as goal

pub returns-then-end-start : goal.returns-then-end-start
returns-then-end-start c = own_apart _ _ _ c.args.address c.args.stored c.args.from c.requires.0 (search rules)

pub returns-then-address-page-ne0 : goal.returns-then-address-page-ne0
returns-then-address-page-ne0 c = own_uneven _ _ _ c.args.address c.args.stored c.args.from c.requires.0 c.if-address-page-ne0.true

pub returns : goal.returns
returns c =
    own-laid _ _ _ c.args.address c.args.stored c.args.from c.requires.0 c.if-address-page-ne0.false c.requires.1 c.max-start.ensures c.min-end.ensures (search rules) c.put_stored.ensures
