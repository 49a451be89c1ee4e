-- `engine_notes::note_on` meets its contract.
use borrow.Author.Rules.{rules}
use Rattle.engine_notes.specs.Noting.{sound_on}
use Rattle.engine_notes.proofs.note_on.Goals as goal

pub shape_of-held : goal.shape_of-held
shape_of-held c =
    search rules

pub returns : goal.returns
unfolding sound_on
returns c = (rw (c.note_on.ensures, c.note_on-2.ensures, c.notes_with.ensures, c.notes_with-2.ensures, c.write_note-draw.ensures.0), c.write_note-draw.ensures.1)
