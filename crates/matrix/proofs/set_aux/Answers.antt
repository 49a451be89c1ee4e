-- `matrix::set_aux` meets its contract.
use Rattle.matrix.specs.Edits.{edited, set_aux}
use Rattle.matrix.proofs.set_aux.Goals as goal

pub returns : goal.returns
unfolding set_aux edited
returns c = cc (c.slot_of.ensures, c.with_aux-slot.ensures, c.replace.ensures)
