-- What browsing answers, in the paper's numbers.
use Rattle.std.specs.Prelude.{Result, Ok, Err}
use Rattle.rules.specs.Refusals.{number_of}
use Rattle.rules.specs.Calls.{step_end}
use Rattle.rules.specs.declared.Refusal.{Refusal}
use Rattle.rules.specs.declared.Part.{Part}
use Rattle.rules.specs.declared.Browsed.{Browsed}
use Rattle.rules.specs.declared.Step.{Step}
use Rattle.browsing.specs.declared.Stands.{Stands}
use Rattle.browsing.specs.declared.Stands.TheVariants.{Entry, End, Refused}

-- Where a record stands; 0 and 0 beside the number of a refusal.
abbrev pub browsed : Result Part Refusal → Browsed
browsed (Ok place) = record { number = 0; offset = place.offset; length = place.length }
browsed (Err refusal) = record { number = number_of refusal; offset = 0; length = 0 }

-- A step: 0 an entry, 1 the end, 7 refused.
abbrev pub stepped : Stands → Step
stepped (Entry entry sum) =
    record { kind = 0; logical = entry.logical; physical = entry.physical; page_sum = entry.checksum; entry_sum = sum }
stepped End = step_end 1
stepped Refused = step_end 7
