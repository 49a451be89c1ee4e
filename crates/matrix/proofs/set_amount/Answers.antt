-- `matrix::set_amount` meets its contract.
use Rattle.matrix.specs.Edits.{edited, set_slot_amount}
use Rattle.matrix.proofs.set_amount.Goals as goal

pub returns : goal.returns
unfolding set_slot_amount edited
returns c = cc (c.slot_of.ensures, c.kept_amount.ensures, c.with_amount-slot.ensures, c.is_finite.ensures, c.replace_finite.ensures)
