-- What a view of a history shows, and what has to hold for it to be read.
use Rattle.std.specs.Prelude.{◌≡◌, Bool, true, not, ◌&&◌, List, ℕ, ◌+◌, ◌*◌, ◌%◌, ◌≤◌, ◌<◌, length, get_or}
use Rattle.rules.specs.Bytes.{byte_at}
use Rattle.rules.specs.Layout.{page_allowed, limit, entry_limit, entries_width, entries_in}
use Rattle.rules.specs.Orders.{Rising}
use Rattle.rules.specs.View.{has, no_entry, logicals, shown_byte}
use Rattle.rules.specs.Rows.{page_wrong, pages_wrong}
use Rattle.view.specs.declared.View.{View}

-- Whether a page is damaged that the index has and that is none of the session's own; whether any of several is.
abbrev pub unowned_wrong : List ℕ → View → ℕ → Bool
unowned_wrong history v a = not (has v.own.now a) && page_wrong history v.index.form.page (entries_in history v.index) a

abbrev pub unowned_pages_wrong : List ℕ → View → List ℕ → Bool
unowned_pages_wrong history v pages = pages_wrong v.own.now history v.index.form.page (entries_in history v.index) pages

-- The bytes of the view, and of the original, counted from an offset.
abbrev pub shown : List ℕ → List ℕ → View → ℕ → ℕ → ℕ
shown original history v from j = shown_byte original history v.index.form.page (entries_in history v.index) v.end v.own.now (from + j)

abbrev pub original_byte : List ℕ → ℕ → ℕ → ℕ
original_byte original from j = byte_at original (from + j)

-- What has to hold for a view to be read.
pub record Seen (history : List ℕ) (v : View) : Type 0 where
  pub short : length history ≤ limit
  pub allowed : page_allowed v.index.form.page ≡ true
  pub least : 16 ≤ v.index.form.page
  pub most : v.index.form.page ≤ 4096
  pub few : v.index.entries ≤ entry_limit
  pub room : v.index.at + entries_width v.index.form v.index.entries ≤ length history
  pub rising : Rising (logicals (entries_in history v.index))
  pub multiple : (k : ℕ) → k < v.index.entries → get_or (logicals (entries_in history v.index)) k 0 % v.index.form.page ≡ 0
  pub stored : (k : ℕ) → k < v.index.entries → (get_or (entries_in history v.index) k no_entry).physical + v.index.form.page ≤ length history
  pub owned : v.end + length v.own.now * v.index.form.page ≤ length history
