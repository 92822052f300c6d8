-- Document 01, "Refusal numbers": each row of the table under its own sentence, true where the row holds.
use Rattle.std.specs.Prelude.{ℕ, ◌+◌, ◌-◌, ◌%◌, ◌^◌, Bool, true, false, not, ◌&&◌, ◌||◌, List, [], ◌∷◌, leb, ltb, eqb, length}
use Rattle.rules.specs.Bytes.{byte_at, part, number_at, same}
use Rattle.rules.specs.Checksum.{checksum}
use Rattle.rules.specs.Layout.{
  page_allowed,
  limit,
  revision_limit,
  entry_limit,
  touch_limit,
  name_limit,
  comment_limit,
  header_signature,
  whole_signature,
  record_signature,
  end_of,
  version,
  entry_sum_at,
  entry_width,
  front_width,
  version_bytes,
  sum_stands,
  sums_stand,
  header_width,
  form_of,
  committed_end,
  whole_size,
  location_width,
  location_at,
  header_end,
  empty_end,
  record_size,
  time_of,
  index_of,
  name_of,
  comment_of,
  within,
  time_right,
  commit_time_right,
  text_right,
  name_right,
  comment_right,
}
use Rattle.rules.specs.View.{has, has_page, entry_of, own_pages, own_address}
use Rattle.rules.specs.Session.{merged_count}
use Rattle.rules.specs.declared.Form.{Form}
use Rattle.rules.specs.declared.Setting.{Setting}
use Rattle.rules.specs.declared.Record.{Record}
use Rattle.rules.specs.declared.Entry.{Entry}
use Rattle.rules.specs.declared.State.{State}

-- 1: "history shorter than 40 bytes (creation: 60) or over the limit"
unfoldable pub length_wrong : ℕ → ℕ → Bool
length_wrong least length = ltb length least || ltb limit length

-- 2: "header signature, version, flags or page size wrong, or its original's length over the limit"
unfoldable pub header_wrong : List ℕ → Bool
header_wrong history =
    not
    (same (part history 0 4) header_signature
    && eqb (byte_at history 4) (version (form_of history))
    && ltb (byte_at history 5) 4
    && eqb (byte_at history 6) 0
    && eqb (byte_at history 7) 0
    && page_allowed (number_at 4 history 8)
    && leb (number_at 8 history 12) limit)

-- 3: "header checksum wrong"
unfoldable pub header_sum_wrong : List ℕ → Bool
header_sum_wrong history = not (sum_stands history 0 (header_width - 4) (header_width - 4))

-- 4: "the lent original's length is not the header's"
unfoldable pub original_wrong : ℕ → Setting → Bool
original_wrong length s = not (eqb length s.original)

-- 5: "whole history: address below 40, past the buffer, size not 20 + 20n, n over 1,024, or a signature, version, reserved byte
-- or checksum in it wrong, location checksums included"
unfoldable pub whole_wrong : List ℕ → Setting → Bool
whole_wrong history s =
    not
    (leb (header_end s.form) s.address
    && leb (committed_end s) (length history)
    && eqb s.size (whole_size s.count)
    && leb s.count revision_limit
    && same (part history s.address 4) whole_signature
    && same (part history (s.address + 4) 4) (version_bytes s.form)
    && sum_stands history s.address (s.size - 4) (s.address + (s.size - 4))
    && sums_stand location_width 16 history (location_at s 1) s.count)

-- 6: "revision above n and not 2^64 - 1"
abbrev pub newest : ℕ
newest = 2 ^ 64 - 1

unfoldable pub revision_unknown : Setting → ℕ → Bool
revision_unknown s revision = ltb s.count revision && not (eqb revision newest)

-- 7: "record: address below 60, size not its layout's, reaches past the whole history's start, or any field against the layout;
-- revision not k; parent not below k; page size not the header's; a physical address below 60 or a page reaching past the
-- record's start".
-- "Logical addresses are multiples of p, strictly rise and are below the record's logical size": an entry, of which the next
-- logical address allowed is told, and each entry behind the one before it.
unfoldable pub entry_right : Setting → Record → ℕ → Entry → Bool
entry_right s r next e =
    leb next e.logical
    && eqb (e.logical % s.form.page) 0
    && ltb e.logical r.logical
    && leb (empty_end s.form) e.physical
    && leb (e.physical + s.form.page) r.address

unfoldable pub entries_right : Setting → Record → ℕ → List Entry → Bool
entries_right s r next [] = true
entries_right s r next (e ∷ index) = entry_right s r next e && entries_right s r (e.logical + 1) index

-- Where the record lies, and its sizes.
unfoldable pub record_lies : Setting → Record → Bool
record_lies s r =
    leb (empty_end s.form) r.address
    && leb (end_of s.form r.address r.size) s.address
    && eqb r.size (record_size s.form r.entries r.name r.comment)
    && leb r.entries entry_limit
    && leb r.name name_limit
    && leb r.comment comment_limit

-- Its fields ahead of the entries: the logical size "is at least the original's length and at most its limit".
unfoldable pub record_fields : List ℕ → Setting → ℕ → Record → Bool
record_fields history s k r =
    same (part history r.address 4) record_signature
    && same (part history (r.address + 4) 4) (version_bytes s.form)
    && eqb r.revision k
    && ltb r.parent k
    && time_right (time_of history r)
    && within s.original limit r.logical
    && eqb r.page s.form.page

unfoldable pub record_wrong : List ℕ → Setting → ℕ → Record → Bool
record_wrong history s k r =
    not
    (record_lies s r
    && record_fields history s k r
    && entries_right s r 0 (index_of history s.form r)
    && text_right (name_of history s.form r)
    && text_right (comment_of history s.form r))

-- 8: "record or entry checksum wrong"
unfoldable pub record_sum_wrong : List ℕ → Form → Record → Bool
record_sum_wrong history f r =
    not
    (sum_stands history r.address (r.size - 4) (r.address + (r.size - 4))
    && sums_stand (entry_width f) (entry_sum_at f) history (r.address + front_width f) r.entries)

-- 9: "page checksum wrong", of the page of an entry, and of a page if the index has it.
unfoldable pub page_sum_wrong : List ℕ → ℕ → Entry → Bool
page_sum_wrong history p e = not (eqb e.checksum (checksum (part history e.physical p)))

unfoldable pub page_wrong : List ℕ → ℕ → List Entry → ℕ → Bool
page_wrong history p index a = has_page index a && page_sum_wrong history p (entry_of index a)

-- "The checksum of each indexed page that the range shares a byte with is checked. A session reads its own pages first; neither
-- they nor what they replace is checked."; "A write checks the checksum of each indexed page that it touches for the first time.":
-- of these pages, any that the index has and that is none of the session's own.
unfoldable pub pages_wrong : List ℕ → List ℕ → ℕ → List Entry → List ℕ → Bool
pages_wrong own history p index [] = false
pages_wrong own history p index (a ∷ pages) =
    not (has own a) && page_wrong history p index a || pages_wrong own history p index pages

-- 10: "read or look-up outside the logical size; look-up address not a multiple of p; write starting past the size"
unfoldable pub read_outside : ℕ → ℕ → ℕ → Bool
read_outside size at n = ltb size (at + n)

unfoldable pub look_up_outside : ℕ → ℕ → ℕ → Bool
look_up_outside p size at = leb size at || not (eqb (at % p) 0)

unfoldable pub write_outside : ℕ → ℕ → Bool
write_outside size at = ltb size at

-- 11: "lock set"
abbrev pub lock_set : Setting → Bool
lock_set s = s.lock

-- 12: "branching off and the revision isn't the newest"
unfoldable pub not_newest : Setting → ℕ → Bool
not_newest s k = not s.branching && not (eqb k s.count)

-- 13: "session ended or not of this history: lock clear; end or count not the history's; count over 1,023; parent over the
-- count, or under it with branching off; its pages over 256, repeated, not multiples of p or not below its size; size over the
-- limit; its pages past the buffer".
unfoldable pub pages_fit : ℕ → ℕ → List ℕ → Bool
pages_fit p size [] = true
pages_fit p size (a ∷ pages) = not (has pages a) && eqb (a % p) 0 && ltb a size && pages_fit p size pages

unfoldable pub session_wrong : ℕ → Setting → State → Bool
session_wrong length s st =
    not
    (s.lock
    && eqb st.end (committed_end s)
    && eqb st.count s.count
    && ltb st.count revision_limit
    && leb st.parent st.count
    && (s.branching || eqb st.parent st.count)
    && leb st.n touch_limit
    && leb st.size limit
    && leb (own_address s st st.n) length
    && pages_fit s.form.page st.size (own_pages st))

-- Its last condition, "judged directly after 8": "size below its parent's logical size (for parent 0 the header's original length)"
unfoldable pub size_below_parent : State → Record → Bool
size_below_parent st r = ltb st.size r.logical

-- 14: "over 256 touched pages or 4,096 merged entries would result"
unfoldable pub too_many : List Entry → List ℕ → Bool
too_many index own = ltb touch_limit (length own) || ltb entry_limit (merged_count index own)

-- 15: "the bytes to be stored do not fit in the buffer": they end at an address.
unfoldable pub no_room : ℕ → ℕ → Bool
no_room length end = ltb length end

-- 16: "time, name or comment against the layout"
unfoldable pub texts_wrong : List ℕ → List ℕ → List ℕ → Bool
texts_wrong time name comment = not (commit_time_right time && name_right name && comment_right comment)

-- 17: "creation: page size wrong or original over the limit"
unfoldable pub creation_wrong : ℕ → ℕ → Bool
creation_wrong original page = not (page_allowed page && leb original limit)

-- 18: "1,024 revisions stand"
unfoldable pub full : Setting → Bool
full s = leb revision_limit s.count

-- 19: "write would end past 16,777,216"
unfoldable pub write_too_far : ℕ → ℕ → Bool
write_too_far at n = ltb limit (at + n)

-- 20: "look-up of a page not in the index that doesn't lie, for its length, within the original"
unfoldable pub not_in_original : ℕ → List Entry → ℕ → ℕ → Bool
not_in_original original index at n = not (has_page index at) && ltb original (at + n)
