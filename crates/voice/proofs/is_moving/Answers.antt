-- `voice::is_moving` meets its contract.
use mathlib.Core.Path.{refl}
use lib.Ieee.{of_bits}
use Rattle.voice.specs.Notes.{moving}
use Rattle.voice.proofs.is_moving.Goals as goal

pub returns : goal.returns
unfolding moving of_bits
returns c = refl
