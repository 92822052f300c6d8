-- Document 01, "Sizes allowed" and "Layout of the history": each part as the bytes that are written and as the fields that are read.
use Rattle.std.specs.Prelude.{ℕ, zero, suc, ◌+◌, ◌*◌, ◌-◌, ◌/◌, ◌%◌, Bool, true, false, cond, ◌&&◌, List, [], ◌∷◌, ◌++◌, leb, eqb, length}
use Rattle.rules.specs.Bytes.{byte_at, part, number_at, number_bytes}
use Rattle.rules.specs.Checksum.{checksum}
use Rattle.rules.specs.declared.Form.{Form}
use Rattle.rules.specs.declared.Setting.{Setting}
use Rattle.rules.specs.declared.Record.{Record}
use Rattle.rules.specs.declared.Entry.{Entry}
use Rattle.rules.specs.declared.Index.{Index}

-- ---- Sizes allowed

-- "page size p: a power of two, 16 to 4,096". The divisors of 4,096 are the powers of two up to it.
unfoldable pub page_allowed : ℕ → Bool
page_allowed p = leb 16 p && eqb (4096 % p) 0

-- "original, logical size, history buffer: at most 16,777,216 bytes each"
abbrev pub limit : ℕ
limit = 16777216

-- "revisions: at most 1,024"
abbrev pub revision_limit : ℕ
revision_limit = 1024

-- "index entries in a record: at most 4,096"
abbrev pub entry_limit : ℕ
entry_limit = 4096

-- "pages touched in a session: at most 256"
abbrev pub touch_limit : ℕ
touch_limit = 256

-- "user name / comment with closing zero: 1 to 64 / 1 to 256 bytes"
abbrev pub name_limit : ℕ
name_limit = 64

abbrev pub comment_limit : ℕ
comment_limit = 256

-- ---- Signatures and checksums

-- "The four-letter signatures of header and whole history are taken from 001; the record's is ORRS": OHDH, OWHR and ORRS.
abbrev pub header_signature : List ℕ
header_signature = 0x4F ∷ 0x48 ∷ 0x44 ∷ 0x48 ∷ []

abbrev pub whole_signature : List ℕ
whole_signature = 0x4F ∷ 0x57 ∷ 0x48 ∷ 0x52 ∷ []

abbrev pub record_signature : List ℕ
record_signature = 0x4F ∷ 0x52 ∷ 0x52 ∷ 0x53 ∷ []

-- A part that ends in the "checksum of all before it (4)".
unfoldable pub summed : List ℕ → List ℕ
summed bytes = bytes ++ number_bytes 4 (checksum bytes)

-- Whether the four bytes at an address are the checksum of n bytes from another.
unfoldable pub sum_stands : List ℕ → ℕ → ℕ → ℕ → Bool
sum_stands history at n sum_at = eqb (number_at 4 history sum_at) (checksum (part history at n))

-- The same of n locations or entries, each so many bytes wide, from an address on: at an offset in each stands the checksum of
-- its first 16 bytes.
unfoldable pub sums_stand : ℕ → ℕ → List ℕ → ℕ → ℕ → Bool
sums_stand width offset history at zero = true
sums_stand width offset history at (suc n) =
    sum_stands history at 16 (at + offset) && sums_stand width offset history (at + width) n

-- ---- What goes by the form

-- Ends, widths, places and stored numbers that differ from form to form have their names here, each with its one definition. They
-- are shut: a proof uses the laws about them (proofs/Places.antt), and not their text.

-- Where a part of the history ends that stands at an address and has a size.
unfoldable pub end_of : Form → ℕ → ℕ → ℕ
end_of f at size = at + size

-- "version 1"
unfoldable pub version : Form → ℕ
version f = 1

-- "Addresses count from the start of the history file": an address that stands in the eight bytes at another, and its bytes.
unfoldable pub address_at : Form → List ℕ → ℕ → ℕ
address_at f history at = number_at 8 history at

unfoldable pub address_bytes : Form → ℕ → List ℕ
address_bytes f address = number_bytes 8 address

-- "Entry, 24 bytes: .., page checksum (4), checksum of the first 16 bytes (4)": the page checksum of the entry at an address, its
-- bytes, and how far behind the entry's start its own checksum stands.
unfoldable pub page_sum_at : Form → List ℕ → ℕ → ℕ
page_sum_at f history at = number_at 4 history (at + 16)

unfoldable pub page_sum_bytes : Form → ℕ → List ℕ
page_sum_bytes f sum = number_bytes 4 sum

unfoldable pub entry_sum_at : Form → ℕ
entry_sum_at f = 20

-- The bytes of an entry, and of n of them.
abbrev pub entry_width : Form → ℕ
entry_width f = entry_sum_at f + 4

unfoldable pub entries_width : Form → ℕ → ℕ
entries_width f n = n * entry_width f

-- "user ID (4)" in a record, behind the page size, as bytes and as it is read of the record at an address; and how far behind a record's
-- start the entry count stands that follows it. Behind that stand the two sizes, and then the entries.
unfoldable pub user_bytes : Form → ℕ → List ℕ
user_bytes f user = number_bytes 4 user

unfoldable pub user_at : Form → List ℕ → ℕ → ℕ
user_at f history at = number_at 4 history (at + 52)

unfoldable pub entry_count_at : Form → ℕ
entry_count_at f = 56

abbrev pub name_size_at : Form → ℕ
name_size_at f = entry_count_at f + 8

abbrev pub comment_size_at : Form → ℕ
comment_size_at f = entry_count_at f + 12

-- The bytes of a record ahead of its entries, and of a record without its entries, name and comment.
abbrev pub front_width : Form → ℕ
front_width f = entry_count_at f + 16

abbrev pub bare_width : Form → ℕ
bare_width f = front_width f + 4

-- ---- How parts start

-- "version 1, three reserved"; "Reserved bytes are zero."
abbrev pub version_bytes : Form → List ℕ
version_bytes f = version f ∷ 0 ∷ 0 ∷ 0 ∷ []

-- Whole history and record start alike: "signature, version 1, three reserved", and a number (8).
unfoldable pub start_bytes : Form → List ℕ → ℕ → List ℕ
start_bytes f signature number = signature ++ version_bytes f ++ number_bytes 8 number

-- ---- Header

-- "Flag bit 0 is the write lock, bit 1 allows branching; others are zero."
unfoldable pub flags_of : Setting → ℕ
flags_of s = cond s.lock 1 0 + cond s.branching 2 0

-- "Header, 40 bytes:
abbrev pub header_width : ℕ
header_width = 40

--  signature 0..3, version 1 at 4, flags 5..7, page size 8..11, original's length 12..19, whole history's address 20..27, its size
--  28..35,
unfoldable pub header_front : Setting → List ℕ
header_front s =
    header_signature ++ (version s.form ∷ []) ++ number_bytes 3 (flags_of s) ++ number_bytes 4 s.form.page
    ++ number_bytes 8 s.original
    ++ address_bytes s.form s.address
    ++ number_bytes 8 s.size

--  checksum of bytes 0..35 at 36..39."
unfoldable pub header_bytes : Setting → List ℕ
header_bytes s = summed (header_front s)

-- The form that the header says, and its other fields, with a count that does not stand in it;
abbrev pub form_of : List ℕ → Form
form_of history = record { page = number_at 4 history 8 }

unfoldable pub setting_with : List ℕ → ℕ → Setting
setting_with history count = record {
  form = form_of history;
  original = number_at 8 history 12;
  address = address_at (form_of history) history 20;
  size = number_at 8 history 28;
  count = count;
  lock = eqb (byte_at history 5 % 2) 1;
  branching = eqb (byte_at history 5 / 2 % 2) 1;
}

-- and with the whole history's count, which stands behind its signature and version.
abbrev pub count_at : List ℕ → ℕ → ℕ
count_at history at = number_at 8 history (at + 8)

unfoldable pub setting_of : List ℕ → Setting
setting_of history = setting_with history (count_at history (address_at (form_of history) history 20))

-- The setting with its lock set or clear.
abbrev pub with_lock : Bool → Setting → Setting
with_lock lock s = record {
  form = s.form;
  original = s.original;
  address = s.address;
  size = s.size;
  count = s.count;
  lock = lock;
  branching = s.branching;
}

-- "The committed end is the whole history's address plus its size."
abbrev pub committed_end : Setting → ℕ
committed_end s = end_of s.form s.address s.size

-- ---- Whole history

-- "Whole history, 20 + 20n bytes:
abbrev pub whole_size : ℕ → ℕ
whole_size n = 20 + 20 * n

--  signature, version 1, three reserved, count n (8), n locations, checksum of all before it (4)."
unfoldable pub whole_bytes : Form → ℕ → List ℕ → List ℕ
whole_bytes f n locations = summed (start_bytes f whole_signature n ++ locations)

-- "A location is record address (8), record size (8), checksum of those 16 bytes (4)."
abbrev pub location_width : ℕ
location_width = 20

unfoldable pub location_bytes : Form → ℕ → ℕ → List ℕ
location_bytes f at size = summed (address_bytes f at ++ number_bytes 8 size)

-- The record size of the location at an address; the record's address is the one that stands there.
abbrev pub located_size : List ℕ → ℕ → ℕ
located_size history at = number_at 8 history (at + 8)

-- "Location k, counted from 1, belongs to revision k": where it stands, behind the whole history's first 16 bytes.
abbrev pub location_at : Setting → ℕ → ℕ
location_at s k = s.address + 16 + location_width * (k - 1)

-- The least address of a whole history is the end of the header, and that of a record or a page the end of the empty whole history
-- behind it.
abbrev pub header_end : Form → ℕ
header_end f = end_of f 0 header_width

abbrev pub empty_end : Form → ℕ
empty_end f = end_of f (header_end f) (whole_size 0)

-- ---- Entry

-- "Entry, 24 bytes: logical address (8), physical address (8), page checksum (4), checksum of the first 16 bytes (4)."
unfoldable pub entry_bytes : Form → Entry → List ℕ
entry_bytes f e =
    let place = number_bytes 8 e.logical ++ address_bytes f e.physical in
    place ++ page_sum_bytes f e.checksum ++ number_bytes 4 (checksum place)

unfoldable pub index_bytes : Form → List Entry → List ℕ
index_bytes f [] = []
index_bytes f (e ∷ index) = entry_bytes f e ++ index_bytes f index

-- The same fields read.
abbrev pub entry_at : Form → List ℕ → ℕ → Entry
entry_at f history at = record {
  logical = number_at 8 history at;
  physical = address_at f history (at + 8);
  checksum = page_sum_at f history at;
}

-- The n entries from an address, and those of an index.
unfoldable pub entries_at : Form → List ℕ → ℕ → ℕ → List Entry
entries_at f history at zero = []
entries_at f history at (suc n) = entry_at f history at ∷ entries_at f history (at + entry_width f) n

abbrev pub entries_in : List ℕ → Index → List Entry
entries_in history x = entries_at x.form history x.at x.entries

-- ---- Record

-- "Its size is 76 + 24 x entries + name size + comment size."
abbrev pub record_size : Form → ℕ → ℕ → ℕ → ℕ
record_size f entries name comment = bare_width f + entries_width f entries + name + comment

-- "Record: ORRS, version 1, three reserved, revision (8), parent (8), time (16), logical size (8), page size (4), user ID (4),
-- entry count (8), name size (4), comment size (4),
unfoldable pub front_bytes : Form → Record → List ℕ → ℕ → List ℕ
front_bytes f r time user =
    start_bytes f record_signature r.revision ++ number_bytes 8 r.parent ++ time ++ number_bytes 8 r.logical
    ++ number_bytes 4 r.page
    ++ user_bytes f user
    ++ number_bytes 8 r.entries
    ++ number_bytes 4 r.name
    ++ number_bytes 4 r.comment

--  entries, name, comment, checksum of all before it (4)."
unfoldable pub record_bytes : Form → Record → List ℕ → ℕ → List Entry → List ℕ → List ℕ → List ℕ
record_bytes f r time user index name comment = summed (front_bytes f r time user ++ index_bytes f index ++ name ++ comment)

-- The same fields read, of the record at an address that its location says to have a size.
unfoldable pub record_at : Form → List ℕ → ℕ → ℕ → Record
record_at f history at size = record {
  address = at;
  size = size;
  revision = number_at 8 history (at + 8);
  parent = number_at 8 history (at + 16);
  logical = number_at 8 history (at + 40);
  page = number_at 4 history (at + 48);
  entries = number_at 8 history (at + entry_count_at f);
  name = number_at 4 history (at + name_size_at f);
  comment = number_at 4 history (at + comment_size_at f);
}

abbrev pub time_at : Record → ℕ
time_at r = r.address + 24

abbrev pub time_of : List ℕ → Record → List ℕ
time_of history r = part history (time_at r) 16

-- The record's index, its name and its comment.
abbrev pub index_of : List ℕ → Form → Record → List Entry
index_of history f r = entries_at f history (r.address + front_width f) r.entries

abbrev pub name_at : Form → Record → ℕ
name_at f r = r.address + front_width f + entries_width f r.entries

abbrev pub name_of : List ℕ → Form → Record → List ℕ
name_of history f r = part history (name_at f r) r.name

abbrev pub comment_at : Form → Record → ℕ
comment_at f r = name_at f r + r.name

abbrev pub comment_of : List ℕ → Form → Record → List ℕ
comment_of history f r = part history (comment_at f r) r.comment

-- "Revision 0 is the original; it has no record": in a record's place stands one with no entries and the original's length.
abbrev pub no_record : Setting → Record
no_record s = record {
  address = 0;
  size = 0;
  revision = 0;
  parent = 0;
  logical = s.original;
  page = s.form.page;
  entries = 0;
  name = 0;
  comment = 0;
}

-- The record of a revision.
unfoldable pub record_of : List ℕ → Setting → ℕ → Record
record_of history s zero = no_record s
record_of history s (suc k) =
    let at = location_at s (suc k) in
    record_at s.form history (address_at s.form history at) (located_size history at)

-- ---- Time, name and comment

abbrev pub within : ℕ → ℕ → ℕ → Bool
within low high x = leb low x && leb x high

abbrev pub digit : ℕ → Bool
digit x = within 0x30 0x39 x

abbrev pub digits : List ℕ → Bool
digits [] = true
digits (x ∷ xs) = digit x && digits xs

-- The number of two digits.
abbrev pub two_digits : List ℕ → ℕ → ℕ
two_digits time at = 10 * (byte_at time at - 0x30) + (byte_at time (at + 1) - 0x30)

-- "Time is YYYYMMDDThhmmssZ in digits: month 01 to 12, day 01 to 31, hour to 23, minute and second to 59."
unfoldable pub time_right : List ℕ → Bool
time_right time =
    eqb (length time) 16
    && digits (part time 0 8)
    && eqb (byte_at time 8) 0x54
    && digits (part time 9 6)
    && eqb (byte_at time 15) 0x5A
    && within 1 12 (two_digits time 4)
    && within 1 31 (two_digits time 6)
    && leb (two_digits time 9) 23
    && leb (two_digits time 11) 59
    && leb (two_digits time 13) 59

-- The time that a commit is given.
abbrev pub commit_time_right : List ℕ → Bool
commit_time_right time = time_right time

-- "Name and comment are bytes 0x20 to 0x7E and end in their only zero byte."
unfoldable pub text_right : List ℕ → Bool
text_right [] = false
text_right (x ∷ []) = eqb x 0
text_right (x ∷ y ∷ rest) = within 0x20 0x7E x && text_right (y ∷ rest)

abbrev pub name_right : List ℕ → Bool
name_right name = text_right name && leb (length name) name_limit

abbrev pub comment_right : List ℕ → Bool
comment_right comment = text_right comment && leb (length comment) comment_limit
