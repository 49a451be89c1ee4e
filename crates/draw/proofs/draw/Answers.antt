-- `draw::draw` meets its contract. The 24 bits fit a binary32, so the cast is allowed, and the divisor is 2^24. Assumes nothing.
use Rattle.std.proofs.Common.{arith, le→leb}
use lib.Ieee.{of_bits, in_float}
use Rattle.draw.specs.Xorshift.{draw_of}
use Rattle.draw.proofs.State.{draw_bits-below}
use Rattle.draw.proofs.Exact.{divisor}
use Rattle.draw.proofs.draw.Goals as goal

pub int_to_float-result : goal.int_to_float-result
unfolding in_float
int_to_float-result c =
    le→leb c.bits.result 16777216 (omega (arith, draw_bits-below c.args.x))

pub returns : goal.returns
unfolding draw_of of_bits
returns c = rw (divisor, c.bits.ensures)
