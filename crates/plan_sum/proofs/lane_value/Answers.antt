-- `plan_sum::lane_value` meets its contract.
use Rattle.plan_sum.proofs.lane_value.Goals as goal

pub returns : goal.returns
returns c = λ t f s j sn fr v. c.route_value.ensures t f s j v (c.snap_of-snapped.ensures t sn fr)
