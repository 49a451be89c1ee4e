-- `engine_notes::notes_with` meets its contract.
use Rattle.engine_notes.specs.Noting.{notes_with}
use Rattle.engine_notes.proofs.notes_with.Goals as goal

pub returns-then-not-takes : goal.returns-then-not-takes
unfolding notes_with
returns-then-not-takes c = simp (c.if-not-takes.true)

pub returns : goal.returns
unfolding notes_with
returns c = simp (c.if-not-takes.false) c.set.ensures
