-- `Marks::note_on` meets its contract.
use borrow.Author.Tests.{lt-ltb, le-ltb}
use Rattle.voice.specs.Marks.{marks_on}
use Rattle.voice.proofs.Marks.note_on.Goals as goal

pub returns-then-voice-ge-VOICES : goal.returns-then-voice-ge-VOICES
unfolding marks_on
returns-then-voice-ge-VOICES c = simp (le-ltb _ _ c.if-voice-ge-VOICES.true)

pub returns-then-legato : goal.returns-then-legato
unfolding marks_on
returns-then-legato c = simp (lt-ltb _ _ c.if-voice-ge-VOICES.false, c.if-legato.true)

pub returns : goal.returns
unfolding marks_on
returns c = simp (lt-ltb _ _ c.if-voice-ge-VOICES.false, c.if-legato.false)
