-- `source::with_audio_key` meets its contract. Assumes nothing.
use Rattle.list.specs.Part.{part}
use Rattle.source.proofs.with_audio_key.Goals as goal

pub returns : goal.returns
unfolding part
returns c = c.with_usual.ensures
