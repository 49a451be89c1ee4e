-- `voice::newest_after` meets its contract.
use mathlib.Core.Path.{sym}
use Rattle.voice.specs.Voices.{newest_after}
use Rattle.voice.proofs.newest_after.Goals as goal

pub returns-then-is_voice : goal.returns-then-is_voice
unfolding newest_after
returns-then-is_voice c = simp (sym c.is_voice.ensures, c.if-is_voice.true) c.latest.ensures

pub returns : goal.returns
unfolding newest_after
returns c = simp (sym c.is_voice.ensures, c.if-is_voice.false)
