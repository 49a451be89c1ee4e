-- `audio_rows::minus_infinity` meets its contract: a number over 0.
use borrow.Author.Rules.{rules}
use lib.Ieee.{of_bits, div, neg}
use Rattle.audio_rows.proofs.minus_infinity.Goals as goal

pub returns : goal.returns
unfolding of_bits div neg
returns c = search rules
