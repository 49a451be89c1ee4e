-- `slots::empty_slot` meets its contract.
use borrow.Author.Rules.{rules}
use lib.Ieee.{of_bits}
use Rattle.slots.specs.Slots.{empty_slot}
use Rattle.slots.proofs.empty_slot.Goals as goal

pub returns : goal.returns
unfolding empty_slot of_bits
returns c = search rules
