-- `slots::route_slot` meets its contract.
use borrow.Author.Rules.{rules}
use lib.Ieee.{of_bits}
use Rattle.slots.specs.Slots.{route_slot}
use Rattle.slots.proofs.route_slot.Goals as goal

pub returns : goal.returns
unfolding route_slot of_bits
returns c = search rules
