-- Two bytes make a word, the low one first.
use mathlib.Core.Path.{refl}
use lib.Lanes.{number_l}
use Rattle.checksum.proofs.Eight.{row_words, words_small}
use Rattle.checksum.proofs.words.Goals as goal

pub returns : goal.returns
returns c = (row_words 8 c.args.row c.fits-row.0 c.fits-row.1, refl, words_small 8 (number_l 256 c.args.row))
