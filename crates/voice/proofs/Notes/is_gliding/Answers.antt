-- `Notes::is_gliding` meets its contract.
use Rattle.voice.specs.Notes.{gliding}
use Rattle.voice.proofs.Notes.is_gliding.Goals as goal

pub returns : goal.returns
unfolding gliding
returns c = c.any_moving.ensures
