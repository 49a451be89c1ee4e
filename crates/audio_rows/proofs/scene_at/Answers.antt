-- `audio_rows::scene_at` meets its contract.
use borrow.Author.Rules.{rules}
use lib.Ieee.{of_bits}
use Rattle.audio_rows.proofs.scene_at.Goals as goal

pub returns : goal.returns
unfolding of_bits
returns c = search rules
