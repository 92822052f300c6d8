-- A page's place in the original or in the history.
use Rattle.std.specs.Prelude.{cond, List, ℕ, ◌+◌, ◌≤◌, eqb, length, Result, Ok, Err}
use Rattle.rules.specs.Bytes.{part}
use Rattle.rules.specs.Layout.{entries_in}
use Rattle.rules.specs.Calls.{accepted, page_rows, found_page, not_found}
use Rattle.rules.specs.declared.Index.{Index}
use Rattle.rules.specs.Refusals.{number_of}
use Rattle.rules.specs.declared.Refusal.{Refusal}
use Rattle.rules.specs.declared.Found.{Found}
use Rattle.lookup.specs.declared.Source.{Source}
use Rattle.lookup.specs.declared.Source.TheVariants.{Original, History}
use Rattle.lookup.specs.declared.Page.{Page}

-- "0 for the original, 1 for the history".
abbrev pub source_number : Source → ℕ
source_number Original = 0
source_number History = 1

-- What a look-up answers, in the paper's numbers.
abbrev pub found : Result Page Refusal → Found
found (Ok place) = record { number = 0; source = source_number place.source; offset = place.offset; length = place.length }
found (Err refusal) = not_found (number_of refusal)

-- The slice that the page lies in, and the page.
abbrev pub source_of : List ℕ → List ℕ → Found → List ℕ
source_of original history f = cond (eqb f.source 1) history original

abbrev pub page_at : List ℕ → List ℕ → Found → List ℕ
page_at original history f = part (source_of original history f) f.offset f.length

-- The page lies within its source.
pub record Lies (original history : List ℕ) (f : Found) : Type 0 where
  pub within : f.offset + f.length ≤ length (source_of original history f)

-- A look-up whose rows 1 to 8 have passed, by the index and the logical size of its revision.
abbrev pub look_up_in : List ℕ → List ℕ → Index → ℕ → ℕ → Found
look_up_in original history x size at =
    let number = page_rows original history x.form.page (entries_in history x) size at in
    accepted number (found_page x.form.page (entries_in history x) size at) (not_found number)
