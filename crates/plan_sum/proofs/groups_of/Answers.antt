-- `plan_sum::groups_of` meets its contract.
use Rattle.plan_sum.proofs.Spans.{groups-at}
use Rattle.plan_sum.proofs.groups_of.Goals as goal

pub returns : goal.returns
returns c = λ t e l h. groups-at t l h (c.in_group-a.ensures t e) (c.in_group-b.ensures t e) (c.in_group-c.ensures t e) (c.in_group-d.ensures t e)
