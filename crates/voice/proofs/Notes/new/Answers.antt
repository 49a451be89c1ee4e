-- `Notes::new` meets its contract.
use mathlib.Core.Path.{refl}
use lib.Ieee.{of_bits}
use Rattle.voice.specs.Notes.{no_notes}
use Rattle.voice.proofs.Notes.new.Goals as goal

pub returns : goal.returns
unfolding no_notes of_bits
returns c = refl
