-- `slots::kept_output` meets its contract.
use lib.Ieee.{of_bits}
use Rattle.slots.specs.Slots.{kept_output}
use Rattle.slots.proofs.kept_output.Goals as goal

pub returns : goal.returns
unfolding kept_output of_bits
returns c = c.clamp.ensures
