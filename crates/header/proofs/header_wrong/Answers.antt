-- Each test is one of the row.
use Rattle.header.proofs.Fields.{header_parts}
use Rattle.header.proofs.header_wrong.Goals as goal

pub returns : goal.returns
returns c =
    header_parts c.args.history.now c.has_signature.ensures c.version.ensures c.flags_allowed.ensures c.form_of-form.ensures c.page_allowed.ensures c.get.ensures.0
