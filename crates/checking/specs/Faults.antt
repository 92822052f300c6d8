-- What the check answers, in the paper's numbers.
use Rattle.std.specs.Prelude.{Result, Ok, Err}
use Rattle.rules.specs.Refusals.{number_of}
use Rattle.rules.specs.Calls.{fault}
use Rattle.rules.specs.declared.Checked.{Checked}
use Rattle.checking.specs.declared.Fault.{Fault}

-- 0 where no fault was found, else its number, its revision and its entry.
abbrev pub checked : Result (Unit {0}) Fault → Checked
checked (Ok nothing) = fault 0 0 0
checked (Err found) = fault (number_of found.refusal) found.revision found.entry
