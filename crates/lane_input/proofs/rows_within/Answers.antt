-- `lane_input::rows_within` meets its contract.
use Rattle.lane_input.proofs.Numbers.{rows-div}
use Rattle.lane_input.proofs.rows_within.Goals as goal

pub returns : goal.returns
returns c = rows-div c.args.rows c.args.stride c.args.len c.requires
