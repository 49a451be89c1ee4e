-- `Voices::note_on` meets its contract.
use borrow.Author.Tests.{lt-ltb, le-ltb}
use Rattle.voice.specs.Voices.{ranks_on, sounded_on}
use Rattle.voice.proofs.Voices.note_on.Goals as goal

pub returns-then-voice-ge-VOICES : goal.returns-then-voice-ge-VOICES
unfolding sounded_on
returns-then-voice-ge-VOICES c = simp (le-ltb _ _ c.if-voice-ge-VOICES.true)

pub returns : goal.returns
unfolding sounded_on ranks_on
returns c = simp (lt-ltb _ _ c.if-voice-ge-VOICES.false, c.raised_ranks-next.ensures)
