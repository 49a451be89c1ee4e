-- `lanes16::snap_lanes` meets its contract.
use lib.ListN.{get_or-replicate}
use lib.Ieee.{nan, of_bits}
use mathlib.Core.Path.{◌∙◌}
use Rattle.lanes16.proofs.snap_lanes.Goals as goal

pub returns-then-not-snap : goal.returns-then-not-snap
unfolding of_bits
returns-then-not-snap c = λ t a e l h. rw (a, c.if-not-snap.true) (get_or-replicate 16 l _ nan h)

pub returns : goal.returns
returns c = λ t a e l h. c.snap_each.ensures t (a ∙ c.if-not-snap.false) e l h
