-- Pages that rise do not come again.
use Rattle.sessions.proofs.Pages.{again-rising}
use Rattle.sessions.proofs.comes_again.Goals as goal

pub returns-else-not-rising : goal.returns-else-not-rising
returns-else-not-rising c =
    let a = c.args in
    rw c.if-not-rising.false (again-rising a.pages.now a.place c.requires.place (c.requires.rising c.if-not-rising.false))
