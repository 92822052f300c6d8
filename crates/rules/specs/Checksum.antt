-- Document 01, "Layout of the history", "Checksum": Fletcher-32.
use Rattle.std.specs.Prelude.{ℕ, zero, suc, ◌+◌, ◌*◌, ◌%◌, List, [], ◌∷◌}

-- "Bytes are taken as big-endian 16-bit words; an odd last byte is a word's high half."
abbrev pub words : List ℕ → List ℕ
words [] = []
words (high ∷ []) = (high * 256) ∷ []
words (high ∷ low ∷ rest) = (high * 256 + low) ∷ words rest

-- "The first sum is the total of the words,
abbrev pub total : List ℕ → ℕ
total [] = 0
total (w ∷ ws) = w + total ws

--  the second the total of the running totals." The running totals, from a start.
abbrev pub running_totals : ℕ → List ℕ → List ℕ
running_totals start [] = []
running_totals start (w ∷ ws) = (start + w) ∷ running_totals (start + w) ws

-- "Each is 0 if its exact total is 0, otherwise the number from 1 to 65,535 that leaves the same remainder on division by 65,535."
abbrev pub folded : ℕ → ℕ
folded zero = 0
folded (suc n) = n % 65535 + 1

-- "The second sum stands in the high sixteen bits and the first in the low."
unfoldable pub checksum : List ℕ → ℕ
checksum bytes = folded (total (running_totals 0 (words bytes))) * 65536 + folded (total (words bytes))
