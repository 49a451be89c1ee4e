-- `lane_input::lane_if` meets its contract.
use Rattle.lane_input.proofs.lane_if.Goals as goal

pub returns-then-on : goal.returns-then-on
returns-then-on c = rw c.if-on.true
