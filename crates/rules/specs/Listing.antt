-- Document 01, "Worked examples": the exact text of the list program.
use Rattle.std.specs.Prelude.{ℕ, zero, suc, ◌+◌, ◌-◌, ◌/◌, ◌%◌, Bool, true, false, cond, ◌||◌, List, [], ◌∷◌, ◌++◌, leb, ltb, length, take}
use Rattle.rules.specs.Bytes.{laid}
use Rattle.rules.specs.Layout.{header_width, setting_of, record_of, time_of, name_of}
use Rattle.rules.specs.Rows.{length_wrong, header_wrong, header_sum_wrong, whole_wrong}
use Rattle.rules.specs.Calls.{row, ◌then◌, accepted, records_rows}
use Rattle.rules.specs.declared.Form.{Form}
use Rattle.rules.specs.declared.Setting.{Setting}
use Rattle.rules.specs.declared.Record.{Record}

-- ---- Refusals

-- "a history of at most 65,536 bytes from standard input"
abbrev pub list_limit : ℕ
list_limit = 65536

-- "the first fault by 1, 2, 3, 5, then .. 7 and 8 (longer input counts as 1)", of a history of at most so many bytes.
unfoldable pub list_rows : ℕ → List ℕ → ℕ
list_rows most history =
    let s = setting_of history in
    row 1 (length_wrong header_width (length history) || ltb most (length history))
    then row 2 (header_wrong history)
    then row 3 (header_sum_wrong history)
    then row 5 (whole_wrong history s)
    then records_rows history s 1 s.count

-- ---- Text

-- A number in decimal digits: of a number below ten its digit, else those of its tens and then its last. Twenty digits hold
-- every number of eight bytes.
unfoldable pub decimal_within : ℕ → ℕ → List ℕ
decimal_within zero n = []
decimal_within (suc places) n = cond (ltb n 10) ((0x30 + n) ∷ []) (decimal_within places (n / 10) ++ ((0x30 + n % 10) ∷ []))

abbrev pub decimal : ℕ → List ℕ
decimal n = decimal_within 20 n

abbrev pub space : List ℕ
space = 0x20 ∷ []

abbrev pub newline : List ℕ
newline = 0x0A ∷ []

-- "flags print `yes` or `no`"
abbrev pub yes_no : Bool → List ℕ
yes_no true = 0x79 ∷ 0x65 ∷ 0x73 ∷ []
yes_no false = 0x6E ∷ 0x6F ∷ []

-- `pages `, ` original `, ` revisions `, ` lock `, ` branch ` and `refused `
abbrev pub pages_word : List ℕ
pages_word = 0x70 ∷ 0x61 ∷ 0x67 ∷ 0x65 ∷ 0x73 ∷ 0x20 ∷ []

abbrev pub original_word : List ℕ
original_word = 0x20 ∷ 0x6F ∷ 0x72 ∷ 0x69 ∷ 0x67 ∷ 0x69 ∷ 0x6E ∷ 0x61 ∷ 0x6C ∷ 0x20 ∷ []

abbrev pub revisions_word : List ℕ
revisions_word = 0x20 ∷ 0x72 ∷ 0x65 ∷ 0x76 ∷ 0x69 ∷ 0x73 ∷ 0x69 ∷ 0x6F ∷ 0x6E ∷ 0x73 ∷ 0x20 ∷ []

abbrev pub lock_word : List ℕ
lock_word = 0x20 ∷ 0x6C ∷ 0x6F ∷ 0x63 ∷ 0x6B ∷ 0x20 ∷ []

abbrev pub branch_word : List ℕ
branch_word = 0x20 ∷ 0x62 ∷ 0x72 ∷ 0x61 ∷ 0x6E ∷ 0x63 ∷ 0x68 ∷ 0x20 ∷ []

abbrev pub refused_word : List ℕ
refused_word = 0x72 ∷ 0x65 ∷ 0x66 ∷ 0x75 ∷ 0x73 ∷ 0x65 ∷ 0x64 ∷ 0x20 ∷ []

-- "`pages` is the page size; flags print `yes` or `no`. Every line ends in one newline."
unfoldable pub setting_line : Setting → List ℕ
setting_line s =
    pages_word ++ decimal s.form.page ++ original_word ++ decimal s.original ++ revisions_word ++ decimal s.count ++ lock_word
    ++ yes_no s.lock
    ++ branch_word
    ++ yes_no s.branching
    ++ newline

-- The name without its closing zero.
abbrev pub shown_name : List ℕ → Form → Record → List ℕ
shown_name history f r = take (r.name - 1) (name_of history f r)

-- "Each record's line: revision, parent, time, logical size, entries, name."
unfoldable pub record_line : List ℕ → Form → Record → List ℕ
record_line history f r =
    decimal r.revision ++ space ++ decimal r.parent ++ space ++ time_of history r ++ space ++ decimal r.logical ++ space
    ++ decimal r.entries
    ++ space
    ++ shown_name history f r
    ++ newline

-- The lines of the m records from k on.
unfoldable pub record_lines : List ℕ → Setting → ℕ → ℕ → List ℕ
record_lines history s k zero = []
record_lines history s k (suc m) = record_line history s.form (record_of history s k) ++ record_lines history s (suc k) m

-- "It prints `refused N` and nothing else for the first fault".
unfoldable pub list_text : ℕ → List ℕ → List ℕ
list_text most history =
    let s = setting_of history in
    let number = list_rows most history in
    accepted number (setting_line s ++ record_lines history s 1 s.count) (refused_word ++ decimal number ++ newline)

-- What is left in a buffer that is lent for the text: the text from its start on, where there is room for all of it, else nothing new.
-- The answer is the text's length either way.
pub record Listed : Type 0 where
  pub length : ℕ
  pub bytes : List ℕ

unfoldable pub list : ℕ → List ℕ → List ℕ → Listed
list most history out =
    let text = list_text most history in
    record { length = length text; bytes = cond (leb (length text) (length out)) (laid out 0 text) out }
