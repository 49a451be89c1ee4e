-- `engine_notes::stopped` meets its contract.
use Rattle.engine_notes.specs.Noting.{sound_ended}
use Rattle.engine_notes.proofs.stopped.Goals as goal

pub returns : goal.returns
unfolding sound_ended
returns c = rw (c.voice_ended.ensures, c.voice_ended-2.ensures, c.voice_ended-3.ensures, c.voice_ended-4.ensures)
