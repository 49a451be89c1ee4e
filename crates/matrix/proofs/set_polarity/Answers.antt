-- `matrix::set_polarity` meets its contract.
use Rattle.matrix.specs.Edits.{edited, set_polarity}
use Rattle.matrix.proofs.set_polarity.Goals as goal

pub returns : goal.returns
unfolding set_polarity edited
returns c = cc (c.slot_of.ensures, c.with_polarity-slot.ensures, c.replace.ensures)
