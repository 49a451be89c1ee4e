-- `Notes::set` meets its contract.
use borrow.Author.Tests.{lt-ltb, le-ltb}
use Rattle.voice.specs.Notes.{set_note}
use Rattle.voice.proofs.Notes.set.Goals as goal

pub returns-then-voice-ge-VOICES : goal.returns-then-voice-ge-VOICES
unfolding set_note
returns-then-voice-ge-VOICES c = simp (le-ltb _ _ c.if-voice-ge-VOICES.true)

pub returns : goal.returns
unfolding set_note
returns c = simp (lt-ltb _ _ c.if-voice-ge-VOICES.false, c.set_value.ensures, c.set_glide-next.ensures)
