-- What the rows that have passed tell.
use mathlib.Core.Path.{◌≡◌, refl}
use mathlib.Core.Bool.{true, false}
use mathlib.Core.List.{List}
use Prim.Native.Nat.{ℕ}
use native.Mathlib.Omega.{arith}
use Rattle.rules.specs.Layout.{page_allowed, form_of, setting_with, setting_of}
use Rattle.rules.specs.Rows.{whole_wrong}
use Rattle.rules.specs.Calls.{header_rows}
use Rattle.rules.specs.declared.Form.{Form}
use Rattle.rules.specs.declared.Setting.{Setting}
use Rattle.rules.proofs.Places.{end-behind}
use Rattle.rules.proofs.Headers.{page-least, page-most, header_facts, whole_facts}
use Rattle.layout.specs.Paged.{Paged}
use Rattle.whole.specs.Sound.{Sound}

-- A form whose page size is allowed.
pub allowed-paged : (f : Form) → page_allowed f.page ≡ true → Paged f
allowed-paged f allowed = record { least = page-least f.page allowed; most = page-most f.page allowed }

-- The form of a setting that was read from the header.
pub front-paged : (h : List ℕ) (n : ℕ) {t : Setting} → t ≡ setting_with h n → header_rows h ≡ 0 → Paged t.form
unfolding setting_with
front-paged h n e r = rw e (allowed-paged (form_of h) (header_facts h r).allowed)

-- What row 5 adds to them.
whole-sound : (h : List ℕ) → header_rows h ≡ 0 → whole_wrong h (setting_of h) ≡ false → Sound h (setting_of h)
unfolding setting_of setting_with
whole-sound h e w =
    let f = header_facts h e in
    let g = whole_facts h (setting_of h) w in
    record {
      setting = refl;
      front = f.front;
      short = f.short;
      allowed = f.allowed;
      paged = allowed-paged (form_of h) f.allowed;
      behind = g.behind;
      ends = g.ends;
      inside = omega (arith, g.ends, end-behind (setting_of h).form (setting_of h).address (setting_of h).size);
      sized = g.sized;
      few = g.few;
      original = f.original;
    }

pub sound : (h : List ℕ) {s : Setting} → header_rows h ≡ 0 → s ≡ setting_of h → whole_wrong h s ≡ false → Sound h s
sound h e q w = rw q (whole-sound h e (rw q at w))
