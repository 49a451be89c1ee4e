-- `Marks::voice_ended` meets its contract.
use borrow.Author.Tests.{lt-ltb, le-ltb}
use Rattle.voice.specs.Marks.{marks_ended}
use Rattle.voice.proofs.Marks.voice_ended.Goals as goal

pub returns-then-voice-ge-VOICES : goal.returns-then-voice-ge-VOICES
unfolding marks_ended
returns-then-voice-ge-VOICES c = simp (le-ltb _ _ c.if-voice-ge-VOICES.true)

pub returns : goal.returns
unfolding marks_ended
returns c = simp (lt-ltb _ _ c.if-voice-ge-VOICES.false)
