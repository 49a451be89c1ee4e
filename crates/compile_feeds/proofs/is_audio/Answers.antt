-- `compile_feeds::is_audio` meets its contract.
use Rattle.compile_feeds.proofs.is_audio.Goals as goal

pub returns : goal.returns
returns c =
    rw (c.unless_fed.ensures, c.audio_rate.ensures, c.counted.ensures, c.hears_audio-hears.ensures)
