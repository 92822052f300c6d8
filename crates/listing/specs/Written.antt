-- What a function that writes a text leaves and answers, what the lines of records rest on, and how long texts are at most.
use Rattle.std.specs.Prelude.{◌≡◌, cond, List, ℕ, ◌+◌, ◌*◌, ◌-◌, ◌≤◌, leb, length}
use Rattle.rules.specs.Bytes.{laid}
use Rattle.rules.specs.Layout.{limit, revision_limit, entry_limit, name_limit, name_at}
use Rattle.rules.specs.Listing.{record_lines, Listed}
use Rattle.rules.specs.declared.Form.{Form}
use Rattle.rules.specs.declared.Setting.{Setting}
use Rattle.rules.specs.declared.Record.{Record}

-- ---- How long texts are at most

-- A number of eight bytes in decimal digits, and a flag.
abbrev pub digits_most : ℕ
digits_most = 20

abbrev pub flag_most : ℕ
flag_most = 3

-- The history's line: its words, the spaces about them and the newline are 42 bytes, and there are three numbers and two flags.
abbrev pub setting_most : ℕ
setting_most = 42 + 3 * digits_most + 2 * flag_most

-- A record's line: five spaces, the time and the newline are 22 bytes, and there are four numbers and a name without its closing zero.
abbrev pub record_most : ℕ
record_most = 22 + 4 * digits_most + (name_limit - 1)

-- A refusal: its word and the newline are 9 bytes.
abbrev pub refused_most : ℕ
refused_most = 9 + digits_most

-- The lines of all records, and the whole text.
abbrev pub records_most : ℕ
records_most = revision_limit * record_most

abbrev pub text_most : ℕ
text_most = setting_most + records_most

-- ---- What is written

-- The text is laid over the bytes from an address on, and the answer is where it ends.
pub record Written (before : List ℕ) (at : ℕ) (text after : List ℕ) (end : ℕ) : Type 0 where
  pub bytes : after ≡ laid before at text
  pub next : end ≡ at + length text

-- A record whose time and name lie in the history: its line can be written.
pub record Shown (history : List ℕ) (f : Form) (r : Record) : Type 0 where
  pub named : 1 ≤ r.name
  pub few : r.name ≤ name_limit
  pub indexed : r.entries ≤ entry_limit
  pub inside : name_at f r + r.name ≤ length history
  pub short : length history ≤ limit

-- How long the lines of a history's records are.
pub record Counted (history : List ℕ) (s : Setting) (n : ℕ) : Type 0 where
  pub all : n ≡ length (record_lines history s 1 s.count)
  pub few : n ≤ records_most

-- An answer and the lent bytes with it.
abbrev pub listed : ℕ → List ℕ → Listed
listed answer bytes = record { length = answer; bytes = bytes }

-- What is left where a text is lent a buffer: the rule of `list`, for any text.
abbrev pub fitted : List ℕ → List ℕ → Listed
fitted out text = listed (length text) (cond (leb (length text) (length out)) (laid out 0 text) out)
