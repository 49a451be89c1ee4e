-- `matrix::set_slot` meets its contract.
use Rattle.matrix.specs.Edits.{edited, set_slot}
use Rattle.matrix.proofs.set_slot.Goals as goal

pub returns : goal.returns
unfolding set_slot edited
returns c = cc (c.numbers_finite.ensures, c.replace_finite.ensures)
