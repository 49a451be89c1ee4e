-- `Voices::voice_ended` meets its contract.
use borrow.Author.Tests.{lt-ltb, le-ltb}
use Rattle.voice.specs.Voices.{ended_of}
use Rattle.voice.proofs.Voices.voice_ended.Goals as goal

pub returns-then-voice-ge-VOICES : goal.returns-then-voice-ge-VOICES
unfolding ended_of
returns-then-voice-ge-VOICES c = simp (le-ltb _ _ c.if-voice-ge-VOICES.true)

pub returns : goal.returns
unfolding ended_of
returns c = simp (lt-ltb _ _ c.if-voice-ge-VOICES.false, c.newest_after-next.ensures)
