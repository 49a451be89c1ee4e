-- `lane_input::unipolar` meets its contract.
use lib.Ieee.{of_bits}
use Rattle.lane_input.proofs.unipolar.Goals as goal

pub returns-then-bipolar : goal.returns-then-bipolar
unfolding of_bits
returns-then-bipolar c = rw c.if-bipolar.true
