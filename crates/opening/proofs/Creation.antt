-- Creation, as the code goes through it.
use mathlib.Core.Path.{◌≡◌}
use mathlib.Core.Bool.{Bool, false}
use mathlib.Core.List.{List, []}
use Prim.Native.Nat.{ℕ, ◌+◌, ◌≤◌}
use native.Mathlib.Omega.{arith}
use lib.Dec.{leb}
use lib.ListN.{length}
use borrow.Author.Tests.{not-false}
use Rattle.rules.specs.Bytes.{laid}
use Rattle.rules.specs.Layout.{page_allowed, limit, header_bytes, whole_size, whole_bytes, header_end, empty_end}
use Rattle.rules.specs.Session.{created_form, created_setting, created}
use Rattle.rules.specs.Rows.{length_wrong, creation_wrong}
use Rattle.rules.specs.Calls.{create_rows, create}
use Rattle.rules.specs.declared.Setting.{Setting}
use Rattle.rules.proofs.Places.{end-behind}
use Rattle.rules.proofs.Rows.{both, left_alone}
use Rattle.rules.proofs.Headers.{length-right}
use Rattle.layout.specs.Paged.{Paged}
use Rattle.whole.proofs.Sound.{allowed-paged}

-- What row 17 leaves: a page size that is allowed.
pub created-paged : (original page : ℕ) → creation_wrong original page ≡ false → Paged (created_form page)
unfolding creation_wrong
created-paged original page e =
    let allowed = (both (page_allowed page) (leb original limit) (not-false _ e)).0 in
    allowed-paged (created_form page) allowed

-- What row 1 leaves: room for the header and the empty whole history.
pub created-room : (page n : ℕ) {least : ℕ} → least ≡ empty_end (created_form page) → length_wrong least n ≡ false
    → (header_end (created_form page) + whole_size 0 ≤ n) × (n ≤ limit)
created-room page n {least} e w =
    let f = created_form page in
    let l = length-right least n w in
    (omega (arith, e, l.0, end-behind f (header_end f) (whole_size 0)), l.1)

pub length_is : (page n : ℕ) {least : ℕ} {b : Bool} → least ≡ empty_end (created_form page) → b ≡ length_wrong least n → b ≡ length_wrong (empty_end (created_form page)) n
length_is page n e f = rw e at f

pub setting_address : (original page : ℕ) (branching : Bool) {s : Setting} → s ≡ created_setting original page branching → s.address ≡ header_end (created_form page)
setting_address original page branching e = rw e

-- ---- The call

module _ (h : List ℕ) (original page : ℕ) (branching : Bool) where
  pub create_refused : (n : ℕ) → n ≡ create_rows (length h) original page → (n ≡ 0 → ⊥) → record { number = n; bytes = h } ≡ create h original page branching
  unfolding create
  create_refused n e f = rw (← e, ← left_alone n (created h original page branching) h f)

  pub create-accepted : {h1 h2 : List ℕ} {s : Setting} → 0 ≡ create_rows (length h) original page → s ≡ created_setting original page branching
      → h1 ≡ laid h s.address (whole_bytes s.form 0 []) → h2 ≡ laid h1 0 (header_bytes s)
      → record { number = 0; bytes = h2 } ≡ create h original page branching
  unfolding create created
  create-accepted e q p1 p2 = rw (← e, p2, p1, q)
