-- `voice::moved_lane` meets its contract.
use mathlib.Core.Path.{sym}
use Rattle.voice.specs.Notes.{moved_lane}
use Rattle.voice.proofs.moved_lane.Goals as goal

pub returns-then-is_moving : goal.returns-then-is_moving
unfolding moved_lane
returns-then-is_moving c = simp (sym c.is_moving.ensures, c.if-is_moving.true)

pub returns : goal.returns
unfolding moved_lane
returns c = simp (sym c.is_moving.ensures, c.if-is_moving.false)
