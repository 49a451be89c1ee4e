-- `compile_feeds::used_as` meets its contract.
use Rattle.compile_feeds.proofs.used_as.Goals as goal

pub returns : goal.returns
returns c = rw (c.counted.ensures, c.is_audio.ensures, c.is_voice.ensures)
