-- `lane_input::signal_in` meets its contract: the samples are read as a part that is all of them.
use Rattle.lane_input.proofs.signal_in.Goals as goal

pub returns : goal.returns
returns c = c.sample_at.ensures
