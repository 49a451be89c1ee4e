-- `slots::kept_amount` meets its contract.
use lib.Ieee.{of_bits, neg}
use Rattle.slots.specs.Slots.{kept_amount}
use Rattle.slots.proofs.kept_amount.Goals as goal

pub returns : goal.returns
unfolding kept_amount of_bits neg
returns c = c.clamp.ensures
