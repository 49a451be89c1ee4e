-- `voice::moved_value` meets its contract.
use mathlib.Core.Path.{sym}
use Rattle.voice.specs.Notes.{moved_value}
use Rattle.voice.proofs.moved_value.Goals as goal

pub returns-then-is_moving : goal.returns-then-is_moving
unfolding moved_value
returns-then-is_moving c = simp (sym c.is_moving.ensures, c.if-is_moving.true) c.moved.ensures

pub returns : goal.returns
unfolding moved_value
returns c = simp (sym c.is_moving.ensures, c.if-is_moving.false)
