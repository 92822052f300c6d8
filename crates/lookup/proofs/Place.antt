-- Where a looked-up page lies, as the code finds it.
use mathlib.Core.Path.{◌≡◌, sym, ◌∙◌}
use mathlib.Core.Bool.{Bool, true, false}
use mathlib.Core.List.{List}
use Prim.Native.Nat.{ℕ, ◌+◌, ◌≤◌, ◌<◌}
use lib.ListN.{length}
use borrow.Author.Tests.{lt-ltb, le-ltb}
use Rattle.rules.specs.Layout.{entries_width, entry_at, entries_in}
use Rattle.rules.specs.View.{place_of, logicals, has_page}
use Rattle.rules.specs.Rows.{look_up_outside, not_in_original, page_wrong}
use Rattle.rules.specs.Calls.{row, ◌then◌, asked, revision_rows, found_length, page_rows, found_page, not_found, look_up}
use Rattle.rules.specs.declared.Setting.{Setting}
use Rattle.rules.specs.declared.Record.{Record}
use Rattle.rules.specs.declared.Index.{Index}
use Rattle.rules.specs.declared.Entry.{Entry}
use Rattle.rules.specs.declared.Found.{Found}
use Rattle.rules.proofs.Rows.{rows_hold, left_alone}
use Rattle.rules.proofs.Range.{page-there, entry-there}
use Rattle.records.specs.Sound.{Standing, index_in}
use Rattle.records.proofs.Fields.{index-there}
use Rattle.lookup.specs.Lies.{look_up_in}

-- ---- Rows 10, 20 and 9, and the place

module _ (o h : List ℕ) (x : Index) (size at : ℕ) {b : Bool} (e : b ≡ look_up_outside x.form.page size at) where
  pub found_outside : {f : Found} → b ≡ true → f ≡ not_found 10 → f ≡ look_up_in o h x size at
  unfolding page_rows row ◌then◌
  found_outside t q = q ∙ rw (sym e ∙ t)

  module _ {n : ℕ} (z : b ≡ false) (en : n ≡ found_length x.form.page size at) where
    pub found_nowhere : {f : Found} → false ≡ has_page (entries_in h x) at → length o < at + n → f ≡ not_found 20 → f ≡ look_up_in o h x size at
    unfolding page_rows row ◌then◌ not_in_original
    found_nowhere l k q = q ∙ rw (sym e ∙ z, ← l, ← en, lt-ltb (length o) (at + n) k)

    pub found-original : false ≡ has_page (entries_in h x) at → at + n ≤ length o → ◌≡◌ {A = Found} (record { number = 0; source = 0; offset = at; length = n }) (look_up_in o h x size at)
    unfolding page_rows found_page row ◌then◌ not_in_original page_wrong
    found-original l k = rw (sym e ∙ z, ← l, ← en, le-ltb (length o) (at + n) k)

    module _ {place : ℕ} (ep : place ≡ place_of at (logicals (entries_in h x))) (l : place < x.entries) {w : Bool} (g : w ≡ page_wrong h x.form.page (entries_in h x) at) where
      pub found_damaged : {f : Found} → w ≡ true → f ≡ not_found 9 → f ≡ look_up_in o h x size at
      unfolding page_rows row ◌then◌ not_in_original
      found_damaged t q = q ∙ rw (sym e ∙ z, page-there h x at ep l, sym g ∙ t)

      pub found-stored : {y : Entry} → w ≡ false → y ≡ entry_at x.form h (x.at + entries_width x.form place)
          → ◌≡◌ {A = Found} (record { number = 0; source = 1; offset = y.physical; length = n }) (look_up_in o h x size at)
      unfolding page_rows found_page row ◌then◌ not_in_original
      found-stored t q = rw (q ∙ entry-there h x at ep l, sym e ∙ z, page-there h x at ep l, sym g ∙ t, ← en)

-- ---- The whole call

module _ (o h : List ℕ) (revision at : ℕ) where
  pub look_refused : {k : ℕ} {f : Found} → k ≡ revision_rows o h revision → (k ≡ 0 → ⊥) → f ≡ not_found k → f ≡ look_up o h revision at
  unfolding look_up
  look_refused {k} e n q = q ∙ rw (← rows_hold _ k e n) (left_alone k _ (not_found k) n)

  pub look-found : {s : Setting} {r : Record} {x : Index} {k : ℕ} {f : Found} → Standing h s (asked s revision) r → x ≡ index_in s r
      → k ≡ revision_rows o h revision → k ≡ 0 → f ≡ look_up_in o h x r.logical at → f ≡ look_up o h revision at
  unfolding look_up index_in ◌then◌
  look-found {s} {r} w ex ek z q = q ∙ rw (ex, index-there h s r, sym ek ∙ z, w.found, w.sound.setting)
