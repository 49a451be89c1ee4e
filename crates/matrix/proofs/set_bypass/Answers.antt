-- `matrix::set_bypass` meets its contract.
use Rattle.matrix.specs.Edits.{edited, set_bypass}
use Rattle.matrix.proofs.set_bypass.Goals as goal

pub returns : goal.returns
unfolding set_bypass edited
returns c = cc (c.slot_of.ensures, c.with_bypass-slot.ensures, c.replace.ensures)
