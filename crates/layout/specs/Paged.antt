-- Sizes with which the layout can be worked out.
use Rattle.std.specs.Prelude.{ℕ, ◌*◌, ◌≤◌}
use Rattle.rules.specs.Layout.{limit}
use Rattle.rules.specs.declared.Form.{Form}

-- A form whose page size is allowed, so far as a sum goes by it.
pub record Paged (f : Form) : Type 0 where
  pub least : 16 ≤ f.page
  pub most : f.page ≤ 4096

-- Addresses and sizes are below the limit; where one part follows another they may pass it, but not twice the limit, and no sum of
-- such numbers wraps.
abbrev pub farthest : ℕ
farthest = 2 * limit
