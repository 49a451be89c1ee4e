-- `engine_notes::note_curve` meets its contract.
use Rattle.model.specs.NoteCalls.{note_curve}
use Rattle.engine_notes.proofs.note_curve.Goals as goal

pub returns-in-Linear : goal.returns-in-Linear
unfolding note_curve
returns-in-Linear c = rw c.in-Linear.is c.linear_at.ensures

pub returns-in-Table : goal.returns-in-Table
unfolding note_curve
returns-in-Table c = rw c.in-Table.is c.table_at.ensures
