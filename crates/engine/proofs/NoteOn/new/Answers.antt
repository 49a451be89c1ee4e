-- `NoteOn::new` meets its contract.
use mathlib.Core.Path.{refl}
use lib.Ieee.{of_bits}
use Rattle.model.specs.NoteCalls.{new_note}
use Rattle.engine.proofs.NoteOn.new.Goals as goal

pub returns : goal.returns
unfolding new_note of_bits
returns c = refl
