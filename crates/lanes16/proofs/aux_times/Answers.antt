-- `lanes16::aux_times` meets its contract.
use Rattle.lanes16.proofs.aux_times.Goals as goal

pub returns-in-None : goal.returns-in-None
returns-in-None c = λ t f s j lane r q w l h. rw c.in-None.is

pub returns-in-Some : goal.returns-in-Some
returns-in-Some c = λ t f s j lane r q w l h. rw (c.in-Some.is, q, ← (rw c.in-Some.is at w) l h, ← c.flipped_lanes.ensures l h) (c.times_lanes.ensures l h)
