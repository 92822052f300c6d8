-- The bytes that a first touch copies, and what has to hold for pages to be touched.
use Rattle.std.specs.Prelude.{◌≡◌, false, cond, List, ℕ, zero, suc, ◌+◌, ◌*◌, ◌-◌, ◌≤◌, ◌<◌, min, max, ltb, length, get_or}
use Rattle.rules.specs.Bytes.{byte_at, part}
use Rattle.rules.specs.Layout.{limit, touch_limit, entries_width, entries_in}
use Rattle.rules.specs.Orders.{Rising}
use Rattle.rules.specs.View.{has, no_entry, logicals, has_page, entry_of, own_pages}
use Rattle.rules.specs.Session.{touching, merged_count}
use Rattle.rules.specs.declared.Setting.{Setting}
use Rattle.rules.specs.declared.Index.{Index}
use Rattle.rules.specs.declared.Entry.{Entry}
use Rattle.rules.specs.declared.State.{State}
use Rattle.layout.specs.Paged.{Paged}

-- Byte j of the page at address a, of a revision.
unfoldable pub page_byte : List ℕ → List ℕ → List Entry → ℕ → ℕ → ℕ
page_byte original history index a j = cond (has_page index a) (byte_at history ((entry_of index a).physical + j)) (byte_at original (a + j))

-- The same, and zero past a size.
unfoldable pub kept_byte : List ℕ → List ℕ → List Entry → ℕ → ℕ → ℕ → ℕ
kept_byte original history index a size j = cond (ltb (a + j) size) (page_byte original history index a j) 0

-- The index and the stored pages, up to n bytes from a place in them on, lie ahead of an address, which has room for n bytes.
pub record Source (h : List ℕ) (x : Index) (to from n : ℕ) : Type 0 where
  pub room : to + n ≤ length h
  pub ahead : x.at + entries_width x.form x.entries ≤ to
  pub rising : Rising (logicals (entries_in h x))
  pub stored : (k : ℕ) → k < x.entries → (get_or (entries_in h x) k no_entry).physical + (from + n) ≤ to

-- A page of p bytes at an address shares a byte with a write of n bytes at an offset.
pub record Shares (p a offset n : ℕ) : Type 0 where
  pub some : 0 < p
  pub small : p ≤ 4096
  pub below : a < offset + n
  pub above : offset < a + p
  pub short : offset + n ≤ limit

-- The bytes of a write that fall into the page, and how many of the page's are ahead of them.
pub record Within (p a offset : ℕ) (bytes : List ℕ) (skip : ℕ) (run : List ℕ) : Type 0 where
  pub skips : skip ≡ max offset a - a
  pub run-is : run ≡ part bytes (max offset a - offset) (min (offset + length bytes) (a + p) - max offset a)
  pub in-page : skip + length run ≤ p

-- The write covers r pages from the one at an address on.
pub record Covers (p a offset n r : ℕ) : Type 0 where
  pub starts : 0 < r → offset ≤ a
  pub ends : a - offset + r * p ≤ n

-- None of r pages from an address on is among others.
abbrev pub AllNew : List ℕ → ℕ → ℕ → ℕ → Type 0
AllNew own p a r = (i : ℕ) → i < r → has own (a + i * p) ≡ false

-- The pages can be touched.
pub record Ready (h : List ℕ) (s : Setting) (x : Index) (index : List Entry) (st : State) (pages : List ℕ) : Type 0 where
  pub sized : Paged s.form
  pub short : length h ≤ limit
  pub small : st.size ≤ limit
  pub full : length st.pages ≡ touch_limit
  pub few : st.n ≤ touch_limit
  -- The index, which no touch changes.
  pub same : entries_in h x ≡ index
  pub ahead : x.at + entries_width x.form x.entries ≤ st.end
  pub rising : Rising (logicals index)
  pub stored : (k : ℕ) → k < x.entries → (get_or index k no_entry).physical + s.form.page ≤ st.end
  -- Rows 14 and 15.
  pub touches : length (touching (own_pages st) pages) ≤ touch_limit
  pub room : st.end + length (touching (own_pages st) pages) * s.form.page ≤ length h

-- How many of m pages of p bytes from an address on an index does not have.
unfoldable pub missing : List Entry → ℕ → ℕ → ℕ → ℕ
missing index p a zero = 0
missing index p a (suc m) = missing index p a m + cond (has_page index (a + m * p)) 0 1

-- How many pages and entries pages touched would leave; once there are over 256 pages they need not be counted further.
pub record Counted (index : List Entry) (own pages : List ℕ) (touched merged : ℕ) : Type 0 where
  pub over : touch_limit < touched → touch_limit < length (touching own pages)
  pub exact : touched ≤ touch_limit → (touched ≡ length (touching own pages)) × (merged ≡ merged_count index (touching own pages))
