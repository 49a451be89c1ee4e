-- `matrix::set_note_linear` meets its contract.
use Rattle.matrix.specs.Edits.{set_note_linear}
use Rattle.matrix.proofs.set_note_linear.Goals as goal

pub returns : goal.returns
unfolding set_note_linear
returns c = c.with_note.ensures
