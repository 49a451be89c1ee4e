-- `lane_input::sounding` meets its contract.
use Rattle.model.specs.Lanes.{sounding}
use Rattle.lane_input.proofs.sounding.Goals as goal

pub returns : goal.returns
unfolding sounding
returns c = λ t e d. rw (e, d) c.any_from.ensures
