-- The rows in the order of the call; the last leaves what the stores rest on.
use mathlib.Core.Path.{refl, ◌∙◌}
use Rattle.rules.proofs.Refusals.{refused, number-handed_on}
use Rattle.committing.proofs.Rows.{index-inside, index_rises, index_is, stored-small, commit-held, commit_many, commit_texts, commit-small, commit-full, commit_fine, committable}
use Rattle.committing.proofs.prepare.Goals as goal

pub returns-in_err-parent-clause-number : goal.returns-in_err-parent-clause-number
returns-in_err-parent-clause-number c = number-handed_on _ _ c.from_residual.ensures.1 ∙ commit-held c.args.st.now _ _ _ _ c.in_err-parent.ensures.number (refused _)

pub merged_count-entries-requires : goal.merged_count-entries-requires
merged_count-entries-requires c =
    let w = c.in_ok-parent.ensures.sound in
    let x = c.index-x.ensures in
    record { entries_in_bounds = index-inside _ w x; rising = index_rises _ w x; distinct = w.differ }

pub returns-then-entries-gt-ENTRIES-clause-number : goal.returns-then-entries-gt-ENTRIES-clause-number
returns-then-entries-gt-ENTRIES-clause-number c =
    let held = c.in_ok-parent.ensures in
    let w = held.sound in
    let count = index_is _ w _ c.index-x.ensures c.merged_count-entries.ensures in
    commit_many c.args.st.now _ _ _ _ held.number refl w count c.if-entries-gt-ENTRIES.true

pub returns-then-texts_wrong-clause-number : goal.returns-then-texts_wrong-clause-number
returns-then-texts_wrong-clause-number c =
    let held = c.in_ok-parent.ensures in
    let w = held.sound in
    let count = index_is _ w _ c.index-x.ensures c.merged_count-entries.ensures in
    commit_texts c.args.st.now _ _ _ _ held.number refl w count c.if-entries-gt-ENTRIES.false c.texts_wrong.ensures c.if-texts_wrong.true

pub record_stored-record-requires : goal.record_stored-record-requires
record_stored-record-requires c =
    let held = c.in_ok-parent.ensures in
    let w = held.sound in
    let count = index_is _ w _ c.index-x.ensures c.merged_count-entries.ensures in
    commit-small c.args.st.now _ _ _ _ held.number refl w count c.if-entries-gt-ENTRIES.false c.texts_wrong.ensures c.if-texts_wrong.false

pub no_room-requires : goal.no_room-requires
no_room-requires c =
    let held = c.in_ok-parent.ensures in
    let w = held.sound in
    let count = index_is _ w _ c.index-x.ensures c.merged_count-entries.ensures in
    let small = commit-small c.args.st.now _ _ _ _ held.number refl w count c.if-entries-gt-ENTRIES.false c.texts_wrong.ensures c.if-texts_wrong.false in
    let low = stored-small _ _ _ w small c.record_stored-record.ensures in
    (small.paged, low.0, low.1, w.few)

pub returns-then-no_room-clause-number : goal.returns-then-no_room-clause-number
returns-then-no_room-clause-number c =
    let held = c.in_ok-parent.ensures in
    let w = held.sound in
    let count = index_is _ w _ c.index-x.ensures c.merged_count-entries.ensures in
    commit-full c.args.st.now _ _ _ _ held.number refl w count c.if-entries-gt-ENTRIES.false c.texts_wrong.ensures c.if-texts_wrong.false c.record_stored-record.ensures c.no_room.ensures c.if-no_room.true

pub returns : goal.returns
returns c =
    let held = c.in_ok-parent.ensures in
    let w = held.sound in
    let count = index_is _ w _ c.index-x.ensures c.merged_count-entries.ensures in
    let fits = c.if-no_room.false in
    let stored = c.record_stored-record.ensures in
    record { number = commit_fine c.args.st.now _ _ _ _ held.number refl w count c.if-entries-gt-ENTRIES.false c.texts_wrong.ensures c.if-texts_wrong.false stored c.no_room.ensures fits; standing = committable c.args.st.now _ _ _ _ held.number refl w count c.if-entries-gt-ENTRIES.false c.texts_wrong.ensures c.if-texts_wrong.false stored c.no_room.ensures fits }
