-- `engine_notes::note_kind` meets its contract.
use Rattle.engine_notes.proofs.note_kind.Goals as goal

pub returns-in-Alternate : goal.returns-in-Alternate
returns-in-Alternate c = rw c.in-Alternate.is c.alternate_kind.ensures
