-- `Voices::note_off` meets its contract.
use mathlib.Core.Path.{refl}
use Rattle.voice.specs.Voices.{released_of}
use Rattle.voice.proofs.Voices.note_off.Goals as goal

pub returns : goal.returns
unfolding released_of
returns c = refl
