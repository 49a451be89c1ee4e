-- `matrix::new` meets its contract.
use Rattle.slots.specs.Matrix.{new_matrix}
use Rattle.matrix.proofs.new.Goals as goal

pub returns : goal.returns
unfolding new_matrix
returns c = rw c.empty_slot-empty.ensures
