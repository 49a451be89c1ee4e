-- `engine_reads::audio_short` meets its contract.
use Rattle.engine_reads.proofs.audio_short.Goals as goal

pub returns : goal.returns
returns c = rw c.audio.ensures
