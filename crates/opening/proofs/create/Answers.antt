-- Two rows, then the empty whole history and, last, the header.
use mathlib.Core.Path.{sym, ◌∙◌}
use native.Mathlib.Omega.{arith}
use Rattle.rules.specs.Layout.{header_width}
use Rattle.rules.specs.Session.{created_form}
use Rattle.rules.specs.Calls.{create_rows}
use Rattle.rules.proofs.Places.{end-behind}
use Rattle.rules.proofs.Rows.{row-holds, row_past, last-holds, last_past}
use Rattle.opening.proofs.Creation.{created-paged, created-room, length_is, create_refused, create-accepted, setting_address}
use Rattle.opening.proofs.create.Goals as goal

pub returns-then-length_wrong : goal.returns-then-length_wrong
unfolding create_rows
returns-then-length_wrong c =
    let a = c.args in
    create_refused _ a.original a.page a.branching 1 (row-holds 1 _ (omega arith) (length_is _ _ c.created_length.ensures c.length_wrong.ensures) c.if-length_wrong.true) (λ e. omega arith)

pub returns-then-creation_wrong : goal.returns-then-creation_wrong
unfolding create_rows
returns-then-creation_wrong c =
    let a = c.args in
    create_refused _ a.original a.page a.branching 17 (row_past 1 _ (length_is _ _ c.created_length.ensures c.length_wrong.ensures) c.if-length_wrong.false (last-holds 17 c.creation_wrong.ensures c.if-creation_wrong.true)) (λ e. omega arith)

pub created_setting-s-requires : goal.created_setting-s-requires
created_setting-s-requires c = created-paged _ _ (sym c.creation_wrong.ensures ∙ c.if-creation_wrong.false)

pub put_empty-requires : goal.put_empty-requires
put_empty-requires c =
    let room = created-room _ _ c.created_length.ensures (sym c.length_wrong.ensures ∙ c.if-length_wrong.false) in
    let a = c.args in
    (omega (arith, room.0, setting_address _ _ _ c.created_setting-s.ensures), room.1)

pub put_header-requires : goal.put_header-requires
put_header-requires c =
    let room = created-room _ _ c.created_length.ensures (sym c.length_wrong.ensures ∙ c.if-length_wrong.false) in
    omega (arith, room.0, end-behind (created_form c.args.page) 0 header_width)

pub returns : goal.returns
unfolding create_rows
returns c =
    let a = c.args in
    let zero = row_past 1 _ (length_is _ _ c.created_length.ensures c.length_wrong.ensures) c.if-length_wrong.false (last_past 17 c.creation_wrong.ensures c.if-creation_wrong.false) in
    create-accepted _ a.original a.page a.branching zero c.created_setting-s.ensures c.put_empty.ensures c.put_header.ensures
