-- Each row is told by its own test; where none holds, the search tells which slice has the page.
use mathlib.Core.Path.{refl}
use native.Mathlib.Omega.{arith}
use Rattle.view.proofs.Pages.{entry-room}
use Rattle.lookup.proofs.Place.{found_outside, found_nowhere, found-original, found_damaged, found-stored}
use Rattle.lookup.proofs.found_in.Goals as goal

pub returns-then-look_up_outside-clause-value : goal.returns-then-look_up_outside-clause-value
returns-then-look_up_outside-clause-value c =
    let a = c.args in
    found_outside _ _ a.v.index a.size a.address c.look_up_outside.ensures c.if-look_up_outside.true refl

pub returns-then-original-address-clause-value : goal.returns-then-original-address-clause-value
returns-then-original-address-clause-value c =
    let a = c.args in
    found_nowhere _ _ a.v.index a.size a.address c.look_up_outside.ensures c.if-look_up_outside.false (rw c.saturating_sub.ensures at c.min-length.ensures) c.in_default.ensures.found c.if-original-address.true refl

pub returns-in_default-clause-value : goal.returns-in_default-clause-value
returns-in_default-clause-value c =
    let a = c.args in
    found-original _ _ a.v.index a.size a.address c.look_up_outside.ensures c.if-look_up_outside.false (rw c.saturating_sub.ensures at c.min-length.ensures) c.in_default.ensures.found c.if-original-address.false

pub returns-then-page_wrong-clause-value : goal.returns-then-page_wrong-clause-value
returns-then-page_wrong-clause-value c =
    let a = c.args in
    let found = c.in-Some.ensures.place in
    found_damaged _ _ a.v.index a.size a.address c.look_up_outside.ensures c.if-look_up_outside.false (rw c.saturating_sub.ensures at c.min-length.ensures) found.0 found.1 c.page_wrong.ensures c.if-page_wrong.true refl

pub returns-clause-value : goal.returns-clause-value
returns-clause-value c =
    let a = c.args in
    let found = c.in-Some.ensures.place in
    found-stored _ _ a.v.index a.size a.address c.look_up_outside.ensures c.if-look_up_outside.false (rw c.saturating_sub.ensures at c.min-length.ensures) found.0 found.1 c.page_wrong.ensures c.if-page_wrong.false c.entry-e.ensures

pub returns-clause-lies : goal.returns-clause-lies
returns-clause-lies c =
    let room = entry-room _ c.args.v c.requires.0 _ c.in-Some.ensures.place.1 c.entry-e.ensures in
    record { within = omega (arith, (rw c.saturating_sub.ensures at c.min-length.ensures)) }
