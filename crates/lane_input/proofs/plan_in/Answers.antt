-- `lane_input::plan_in` meets its contract.
use Rattle.lane_input.proofs.plan_in.Goals as goal

pub returns : goal.returns
returns c = rw (← c.plan_to-start.ensures) c.fed_at.ensures
