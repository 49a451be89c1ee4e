-- `program::audio_need` meets its contract.
use Rattle.program.specs.Steps.{held_audio}
use Rattle.program.proofs.audio_need.Goals as goal

pub returns : goal.returns
unfolding held_audio
returns c = c.audio.ensures
