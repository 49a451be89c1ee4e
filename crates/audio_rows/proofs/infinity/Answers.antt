-- `audio_rows::infinity` meets its contract: a number over 0.
use borrow.Author.Rules.{rules}
use lib.Ieee.{of_bits, div}
use Rattle.audio_rows.proofs.infinity.Goals as goal

pub returns : goal.returns
unfolding of_bits div
returns c = search rules
