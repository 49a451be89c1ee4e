-- `compile_feeds::audio_aux` meets its contract.
use Rattle.compile_feeds.proofs.audio_aux.Goals as goal

pub returns-in-Some : goal.returns-in-Some
returns-in-Some c = rw (c.audio_source.ensures, c.in-Some.is)
