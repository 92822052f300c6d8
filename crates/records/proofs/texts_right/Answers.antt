-- Name and comment stand one behind the other.
use mathlib.Core.Path.{refl}
use Rattle.records.proofs.Fields.{texts_parts}
use Rattle.records.proofs.texts_right.Goals as goal

pub returns : goal.returns
returns c =
    let a = c.args in
    texts_parts a.form _ a.r _ _ _ c.name_at-name.ensures refl refl c.text_right.ensures c.text_right-2.ensures
