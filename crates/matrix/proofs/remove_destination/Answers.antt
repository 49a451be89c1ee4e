-- `matrix::remove_destination` meets its contract.
use Rattle.slots.specs.Matrix.{with_slots}
use Rattle.matrix.specs.Edits.{remove_destination}
use Rattle.matrix.proofs.remove_destination.Goals as goal

pub returns : goal.returns
unfolding remove_destination with_slots
returns c = cc (c.count_aims.ensures, c.clear_all-slot.ensures)
