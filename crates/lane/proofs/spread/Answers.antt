-- `lane::spread` meets its contract.
use lib.Ieee.{of_bits}
use Rattle.lane.proofs.spread.Goals as goal

pub returns-then-bipolar : goal.returns-then-bipolar
unfolding of_bits
returns-then-bipolar c = rw c.if-bipolar.true
