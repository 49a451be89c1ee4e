-- `plan_sum::add_lane` meets its contract.
use Rattle.plan_sum.proofs.add_lane.Goals as goal

pub returns-in-Some : goal.returns-in-Some
returns-in-Some c = λ t f s j sn fr v. rw (c.in-Some.is, ← c.lane_value.ensures t f s j sn fr v)

pub returns-in-None : goal.returns-in-None
returns-in-None c = λ t f s j sn fr v. rw c.in-None.is
