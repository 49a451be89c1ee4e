-- `plan_sum::reach_of` meets its contract.
use Rattle.plan_sum.proofs.reach_of.Goals as goal

pub returns : goal.returns
returns c = (c.lane_count.ensures.0, c.lane_count.ensures.1, λ t sc. record { voices = sc.voices; fresh = sc.fresh; snap = sc.snap; groups = c.groups_of-groups.ensures t (rw sc.voices) })
