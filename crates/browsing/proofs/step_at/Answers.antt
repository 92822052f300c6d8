-- The tests of the code are those of the rule, once the division tells how many entries there is room for.
use mathlib.Core.Path.{◌≡◌, refl, ap, ◌∙◌}
use Prim.Native.Nat.{◌+◌, ◌-◌, ◌≤◌}
use native.Mathlib.Omega.{arith}
use lib.ListN.{length}
use Rattle.rules.specs.Bytes.{number_at}
use Rattle.rules.specs.Layout.{entry_width, entries_width, entry_count_at, front_width, bare_width}
use Rattle.rules.specs.Calls.{lent_form}
use Rattle.browsing.proofs.Steps.{room-short, room_enough, step-none, step_bare, step_refused, step_past, step-there, entry-room}
use borrow.Author.Rules.{rules}
use Rattle.browsing.proofs.step_at.Goals as goal
use Rattle.browsing.proofs.step_at.Goals.{After-entries_width, After-entry_width-width, Else-entries-place, Else-most-entries}

-- The entry count that was read,
counted : (c : After-entry_width-width) → c.get-entries.result ≡ number_at 8 c.args.bytes.now (entry_count_at lent_form)
counted c = c.get-entries.ensures.0 ∙ ap (number_at 8 _) c.entry_count_at.ensures

-- and room for so many entries.
enough : (c : Else-most-entries) → bare_width lent_form + entries_width lent_form c.get-entries.result ≤ length c.args.bytes.now
enough c =
    let bare = c.bare_width-bare in
    let room = room_enough lent_form c.entry_width-width.ensures (length c.args.bytes.now - bare.result) c.get-entries.result c.if-most-entries.false in
    omega (arith, bare.ensures, c.if-room-bare.false)

-- So the entry at the place lies within the bytes,
inside : (c : Else-entries-place) → bare_width lent_form + entries_width lent_form c.get-entries.result ≤ length c.args.bytes.now → front_width lent_form + entries_width lent_form c.args.place + entry_width lent_form ≤ length c.args.bytes.now
inside c room = entry-room c.args.bytes.now c.args.place room (search rules)

-- also where the code works out that it starts.
lies : (c : After-entries_width) → front_width lent_form + entries_width lent_form c.args.place + entry_width lent_form ≤ length c.args.bytes.now → c.front_width-front.result + c.entries_width.result + entry_width lent_form ≤ length c.args.bytes.now
lies c within = omega (arith, c.front_width-front.ensures, c.entries_width.ensures, within)

pub returns-then-room-eq0 : goal.returns-then-room-eq0
returns-then-room-eq0 c = step-none _ _ refl c.if-room-eq0.true

pub returns-then-room-bare : goal.returns-then-room-bare
returns-then-room-bare c = step_bare _ _ refl c.if-room-eq0.false (omega (arith, c.bare_width-bare.ensures, c.if-room-bare.true))

pub returns-then-most-entries : goal.returns-then-most-entries
returns-then-most-entries c =
    let bare = c.bare_width-bare in
    let short = room-short lent_form c.entry_width-width.ensures (length c.args.bytes.now - bare.result) c.get-entries.result c.if-most-entries.true in
    step_refused _ _ (counted (goal.at.returns-then-most-entries c).After-entry_width-width) c.if-room-eq0.false refl (omega (arith, bare.ensures, c.if-room-bare.false))

pub returns-then-entries-place : goal.returns-then-entries-place
returns-then-entries-place c = step_past _ _ (counted (goal.at.returns-then-entries-place c).After-entry_width-width) c.if-room-eq0.false (enough (goal.at.returns-then-entries-place c).Else-most-entries) refl (search rules)

pub entries_width-requires : goal.entries_width-requires
entries_width-requires c =
    let at = goal.at.entries_width-requires c in
    omega (arith, inside at.Else-entries-place (enough at.Else-most-entries))

pub overflow_add-at : goal.overflow_add-at
overflow_add-at c =
    let at = goal.at.overflow_add-at c in
    omega (arith, lies at.After-entries_width (inside at.Else-entries-place (enough at.Else-most-entries)))

pub entry_at-entry-requires : goal.entry_at-entry-requires
entry_at-entry-requires c =
    let at = goal.at.entry_at-entry-requires c in
    omega (arith, lies at.After-entries_width (inside at.Else-entries-place (enough at.Else-most-entries)))

pub overflow_add-at-2 : goal.overflow_add-at-2
overflow_add-at-2 c =
    let at = goal.at.overflow_add-at-2 c in
    omega (arith, c.entry_sum_at.ensures, lies at.After-entries_width (inside at.Else-entries-place (enough at.Else-most-entries)))

pub get-sum-requires-clause-inside : goal.get-sum-requires-clause-inside
get-sum-requires-clause-inside c =
    let at = goal.at.get-sum-requires-clause-inside c in
    omega (arith, c.entry_sum_at.ensures, lies at.After-entries_width (inside at.Else-entries-place (enough at.Else-most-entries)))

pub returns : goal.returns
returns c = step-there _ _ (counted (goal.at.returns c).After-entry_width-width) c.if-room-eq0.false (enough (goal.at.returns c).Else-most-entries) (search rules) (omega (arith, c.front_width-front.ensures, c.entries_width.ensures)) c.entry_at-entry.ensures (c.get-sum.ensures.0 ∙ rw c.entry_sum_at.ensures)
