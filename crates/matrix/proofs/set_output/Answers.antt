-- `matrix::set_output` meets its contract.
use Rattle.matrix.specs.Edits.{edited, set_slot_output}
use Rattle.matrix.proofs.set_output.Goals as goal

pub returns : goal.returns
unfolding set_slot_output edited
returns c = cc (c.slot_of.ensures, c.kept_output.ensures, c.with_output-slot.ensures, c.is_finite.ensures, c.replace_finite.ensures)
