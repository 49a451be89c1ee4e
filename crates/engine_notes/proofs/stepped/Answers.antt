-- `engine_notes::stepped` meets its contract.
use Rattle.engine_notes.proofs.stepped.Goals as goal

pub returns-then-on : goal.returns-then-on
returns-then-on c = simp c.if-on.true c.step.ensures
