-- `lane_input::in_group` meets its contract.
use Rattle.model.specs.Lanes.{in_group}
use Rattle.lane_input.proofs.in_group.Goals as goal

pub returns : goal.returns
unfolding in_group
returns c = λ t e. rw (e, ← c.group_of.ensures.0) c.any_from.ensures
