-- `compile_feeds::audio_source` meets its contract.
use Rattle.compile_feeds.proofs.audio_source.Goals as goal

pub returns : goal.returns
returns c = rw (c.is_audio_kind.ensures, c.source_at-s.ensures)
