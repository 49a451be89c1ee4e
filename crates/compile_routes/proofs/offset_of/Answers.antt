-- `compile_routes::offset_of` meets its contract.
use lib.Ieee.{of_bits, neg}
use Rattle.compile_routes.proofs.offset_of.Goals as goal

pub returns-then-slot : goal.returns-then-slot
unfolding of_bits
returns-then-slot c = rw (c.if-source.true, c.if-slot.true)

pub returns-else-slot : goal.returns-else-slot
unfolding of_bits
returns-else-slot c = rw (c.if-source.true, c.if-slot.false)

pub returns-then-slot-2 : goal.returns-then-slot-2
unfolding of_bits neg
returns-then-slot-2 c = rw (c.if-source.false, c.if-slot-2.true)

pub returns-else-slot-2 : goal.returns-else-slot-2
unfolding of_bits
returns-else-slot-2 c = rw (c.if-source.false, c.if-slot-2.false)
