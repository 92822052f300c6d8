-- Each field is read where the layout has it.
use Rattle.header.proofs.Fields.{setting_parts}
use Rattle.header.proofs.Flags.{lock_mask, branching_mask}
use Rattle.header.proofs.setting_with.Goals as goal

pub returns : goal.returns
returns c = setting_parts _ _ c.form_of-form.ensures c.get.ensures.0 c.get_address.ensures c.get-2.ensures.0 (lock_mask _) (branching_mask _)
