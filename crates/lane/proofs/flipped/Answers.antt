-- `lane::flipped` meets its contract.
use lib.Ieee.{of_bits}
use Rattle.lane.proofs.flipped.Goals as goal

pub returns-then-invert : goal.returns-then-invert
unfolding of_bits
returns-then-invert c = rw c.if-invert.true
