-- Document 01, "Refusal numbers".
use Rattle.std.specs.Prelude.{ℕ, Result, Ok, Err, Option, Some, None}
use Rattle.rules.specs.declared.Refusal.{Refusal}
use Rattle.rules.specs.declared.Refusal.TheVariants.{
  Length,
  Header,
  HeaderSum,
  Original,
  Whole,
  Revision,
  Record,
  RecordSum,
  PageSum,
  Outside,
  Locked,
  NotNewest,
  Session,
  TooMany,
  NoRoom,
  Texts,
  Creation,
  Full,
  TooFar,
  NotInOriginal,
}

-- The number of a refusal.
abbrev pub number_of : Refusal → ℕ
number_of Length = 1
number_of Header = 2
number_of HeaderSum = 3
number_of Original = 4
number_of Whole = 5
number_of Revision = 6
number_of Record = 7
number_of RecordSum = 8
number_of PageSum = 9
number_of Outside = 10
number_of Locked = 11
number_of NotNewest = 12
number_of Session = 13
number_of TooMany = 14
number_of NoRoom = 15
number_of Texts = 16
number_of Creation = 17
number_of Full = 18
number_of TooFar = 19
number_of NotInOriginal = 20

-- The number that an answer tells: that of the refusal, and 0 where the call was accepted.
abbrev pub told : {A : Type 0} → Result A Refusal → ℕ
told (Ok x) = 0
told (Err refusal) = number_of refusal

-- The number of a refusal that is kept, 0 where there is none.
abbrev pub number_kept : Option Refusal → ℕ
number_kept None = 0
number_kept (Some refusal) = number_of refusal
