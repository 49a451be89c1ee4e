-- `matrix::remove` meets its contract.
use Rattle.matrix.specs.Edits.{edited, remove_slot}
use Rattle.matrix.proofs.remove.Goals as goal

pub returns : goal.returns
unfolding remove_slot edited
returns c = cc (c.empty_slot.ensures, c.replace.ensures)
