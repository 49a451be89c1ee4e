-- `Voices::new` meets its contract.
use Rattle.voice.specs.Voices.{no_voices}
use Rattle.voice.proofs.Voices.new.Goals as goal

pub returns : goal.returns
unfolding no_voices
returns c = rw c.first_ranks.ensures
