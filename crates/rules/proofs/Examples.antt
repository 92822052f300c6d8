-- Document 01, "Worked examples": the starred ones, as one table and one statement that all of it holds.
use mathlib.Core.Path.{◌≡◌, refl}
use mathlib.Core.Bool.{Bool, true, false, ◌&&◌}
use mathlib.Core.List.{List, [], ◌∷◌, ◌++◌}
use Prim.Native.Nat.{ℕ, ◌+◌}
use lib.Dec.{eqb}
use lib.ListN.{length, get_or, replicate}
use Rattle.rules.specs.Bytes.{byte_at, value_of, number_bytes, laid, tabulate}
use Rattle.rules.specs.Checksum.{checksum}
use Rattle.rules.specs.Layout.{
  page_allowed,
  end_of,
  version,
  address_at,
  address_bytes,
  page_sum_at,
  page_sum_bytes,
  entry_sum_at,
  entries_width,
  user_bytes,
  entry_count_at,
  start_bytes,
  summed,
  sum_stands,
  sums_stand,
  flags_of,
  header_front,
  header_bytes,
  setting_with,
  setting_of,
  committed_end,
  whole_bytes,
  location_bytes,
  entry_bytes,
  index_bytes,
  entries_at,
  front_bytes,
  record_bytes,
  record_at,
  record_of,
  index_of,
  time_right,
  text_right,
}
use Rattle.rules.specs.View.{place_of, no_entry, own_address, revision_byte, shown_byte, pages_from, pages_in}
use Rattle.rules.specs.Session.{
  created,
  locked,
  first_copy,
  touched,
  over_page,
  laid_on_page,
  written_pages,
  written,
  touching,
  put,
  put_all,
  merged_index,
  merged_count,
  committed,
}
use Rattle.rules.specs.Rows.{
  length_wrong,
  header_wrong,
  header_sum_wrong,
  original_wrong,
  whole_wrong,
  revision_unknown,
  entry_right,
  entries_right,
  record_lies,
  record_fields,
  record_wrong,
  record_sum_wrong,
  page_sum_wrong,
  page_wrong,
  pages_wrong,
  read_outside,
  write_outside,
  not_newest,
  pages_fit,
  session_wrong,
  size_below_parent,
  too_many,
  no_room,
  texts_wrong,
  creation_wrong,
  full,
  write_too_far,
}
use Rattle.rules.specs.Calls.{
  row,
  ◌then◌,
  Outcome,
  header_rows,
  history_rows,
  both_rows,
  record_rows,
  session_rows,
  asked,
  revision_rows,
  begin_rows,
  held_rows,
  create_rows,
  create,
  read_rows,
  read_bytes,
  read,
  open_rows,
  open_for_writing,
  write_rows,
  write,
  commit_rows,
  commit,
}
use Rattle.rules.specs.declared.Record.{Record}
use Rattle.rules.specs.declared.Entry.{Entry}

-- A line of the table: a number worked out by the rules, and the one that the paper gives.
pub record Line : Type 0 where
  pub worked : ℕ
  pub given : ℕ

infix 80 ◌gives◌
abbrev pub ◌gives◌ : ℕ → ℕ → Line
worked gives given = record { worked = worked; given = given }

abbrev pub holds : List Line → Bool
holds [] = true
holds (line ∷ rest) = eqb line.worked line.given && holds rest

-- ---- "Original of 20 bytes, p = 16, buffer 512."

abbrev pub original : List ℕ
original = tabulate 20 (λ i. 65 + i)

-- `ana`, the empty comment, 20240305T070000Z and 20240305T091500Z
abbrev pub name : List ℕ
name = 0x61 ∷ 0x6E ∷ 0x61 ∷ 0 ∷ []

abbrev pub comment : List ℕ
comment = 0 ∷ []

abbrev pub day : List ℕ
day = 0x32 ∷ 0x30 ∷ 0x32 ∷ 0x34 ∷ 0x30 ∷ 0x33 ∷ 0x30 ∷ 0x35 ∷ 0x54 ∷ []

abbrev pub first_time : List ℕ
first_time = day ++ (0x30 ∷ 0x37 ∷ 0x30 ∷ 0x30 ∷ 0x30 ∷ 0x30 ∷ 0x5A ∷ [])

abbrev pub second_time : List ℕ
second_time = day ++ (0x30 ∷ 0x39 ∷ 0x31 ∷ 0x35 ∷ 0x30 ∷ 0x30 ∷ 0x5A ∷ [])

unfoldable pub history : List ℕ
history = (create (replicate 512 165) 20 16 false).bytes

unfoldable pub first_open : Outcome
first_open = open_for_writing original history 0

unfoldable pub first_write : Outcome
first_write = write first_open.session original first_open.bytes 14 (1 ∷ 2 ∷ 3 ∷ 4 ∷ [])

unfoldable pub first_commit : Outcome
first_commit = commit first_write.session first_write.bytes first_time 7 name comment

unfoldable pub second_open : Outcome
second_open = open_for_writing original first_commit.bytes 1

unfoldable pub second_write : Outcome
second_write = write second_open.session original second_open.bytes 20 (5 ∷ [])

unfoldable pub second_commit : Outcome
second_commit = commit second_write.session second_write.bytes second_time 7 name comment

-- What a committed history says of a revision.
abbrev pub record_in : List ℕ → ℕ → Record
record_in bytes k = record_of bytes (setting_of bytes) k

unfoldable pub second_index : List Entry
second_index = index_of second_commit.bytes (setting_of second_commit.bytes).form (record_in second_commit.bytes 2)

-- ---- The table

unfoldable pub table : List Line
table =
    -- "Checksums: no bytes 0; 01 0x01000100; 00 01 0x00010001; FF FF 0xFFFFFFFF; FF FF 00 01 0x00010001."
    checksum [] gives 0
    ∷ checksum (0x01 ∷ []) gives 0x01000100
    ∷ checksum (0x00 ∷ 0x01 ∷ []) gives 0x00010001
    ∷ checksum (0xFF ∷ 0xFF ∷ []) gives 0xFFFFFFFF
    ∷ checksum (0xFF ∷ 0xFF ∷ 0x00 ∷ 0x01 ∷ []) gives 0x00010001
    -- "Page size 16 and 4,096 allowed; 8, 24 and 8,192 refused 17."
    ∷ create_rows 512 20 16 gives 0
    ∷ create_rows 512 20 4096 gives 0
    ∷ create_rows 512 20 8 gives 17
    ∷ create_rows 512 20 24 gives 17
    ∷ create_rows 512 20 8192 gives 17
    -- "Created: end 60."
    ∷ (create (replicate 512 165) 20 16 false).number gives 0
    ∷ committed_end (setting_of history) gives 60
    -- "Write of 4 bytes at 14: pages 0 and 16 at 60 and 76."
    ∷ first_open.number gives 0
    ∷ first_write.number gives 0
    ∷ first_write.session.n gives 2
    ∷ byte_at first_write.session.pages 0 gives 0
    ∷ byte_at first_write.session.pages 1 gives 16
    ∷ own_address (setting_of history) first_write.session 0 gives 60
    ∷ own_address (setting_of history) first_write.session 1 gives 76
    -- "Commit, name ana, empty comment: record at 92 of 129 bytes, whole history at 221 of 40, end 261."
    ∷ first_commit.number gives 0
    ∷ (record_in first_commit.bytes 1).address gives 92
    ∷ (record_in first_commit.bytes 1).size gives 129
    ∷ (setting_of first_commit.bytes).address gives 221
    ∷ (setting_of first_commit.bytes).size gives 40
    ∷ committed_end (setting_of first_commit.bytes) gives 261
    -- "Second session on 1, one byte at 20: size 21, page 16 at 261, record at 277 of 129, whole history at 406 of 60, end 466."
    ∷ second_open.number gives 0
    ∷ second_write.number gives 0
    ∷ second_write.session.size gives 21
    ∷ second_write.session.n gives 1
    ∷ byte_at second_write.session.pages 0 gives 16
    ∷ own_address (setting_of second_open.bytes) second_write.session 0 gives 261
    ∷ second_commit.number gives 0
    ∷ (record_in second_commit.bytes 2).address gives 277
    ∷ (record_in second_commit.bytes 2).size gives 129
    ∷ (setting_of second_commit.bytes).address gives 406
    ∷ (setting_of second_commit.bytes).size gives 60
    ∷ committed_end (setting_of second_commit.bytes) gives 466
    -- "Its index: 0 at 60, 16 at 261."
    ∷ length (second_index) gives 2
    ∷ (get_or second_index 0 no_entry).logical gives 0
    ∷ (get_or second_index 0 no_entry).physical gives 60
    ∷ (get_or second_index 1 no_entry).logical gives 16
    ∷ (get_or second_index 1 no_entry).physical gives 261
    -- "Write of no bytes at 20 on the original accepted; at 21 refused 10."
    ∷ (write first_open.session original first_open.bytes 20 []).number gives 0
    ∷ (write first_open.session original first_open.bytes 21 []).number gives 10
    -- "Read of 1 byte at 20 of revision 1 refused 10, of revision 2 given."
    ∷ (read original second_commit.bytes 1 20 (0 ∷ [])).number gives 10
    ∷ (read original second_commit.bytes 2 20 (0 ∷ [])).number gives 0
    ∷ byte_at (read original second_commit.bytes 2 20 (0 ∷ [])).bytes 0 gives 5
    ∷ []

pub examples_hold : holds table ≡ true
unfolding
    table history first_open first_write first_commit second_open second_write second_commit second_index
    value_of number_bytes laid tabulate checksum
    end_of version address_at address_bytes page_sum_at page_sum_bytes entry_sum_at entries_width user_bytes entry_count_at start_bytes
    page_allowed summed sum_stands sums_stand flags_of header_front header_bytes setting_with setting_of whole_bytes location_bytes entry_bytes index_bytes entries_at front_bytes record_bytes record_at record_of time_right text_right
    place_of revision_byte shown_byte pages_from pages_in
    created locked first_copy touched over_page laid_on_page written_pages written touching put put_all merged_index merged_count committed
    length_wrong header_wrong header_sum_wrong original_wrong whole_wrong revision_unknown entry_right entries_right record_lies record_fields record_wrong record_sum_wrong page_sum_wrong page_wrong pages_wrong read_outside write_outside not_newest pages_fit session_wrong size_below_parent too_many no_room texts_wrong creation_wrong full write_too_far
    row ◌then◌ header_rows history_rows both_rows record_rows session_rows asked revision_rows begin_rows held_rows create_rows create read_rows read_bytes read open_rows open_for_writing write_rows write commit_rows commit
examples_hold = refl
