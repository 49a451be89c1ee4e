-- `matrix::set_linear` meets its contract.
use Rattle.matrix.specs.Edits.{edited, set_linear}
use Rattle.matrix.proofs.set_linear.Goals as goal

pub returns : goal.returns
unfolding set_linear edited
returns c = cc (c.slot_of.ensures, c.with_curve-slot.ensures, c.replace.ensures)
