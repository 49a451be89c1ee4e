-- `lane_input::in_part` meets its contract.
use lib.Ieee.{of_bits}
use borrow.Author.Tests.{lt-ltb, le-ltb}
use Rattle.lane_input.proofs.in_part.Goals as goal

pub returns-then-len-n : goal.returns-then-len-n
unfolding of_bits
returns-then-len-n c = rw (le-ltb c.args.n c.args.part.len c.if-len-n.true)

pub returns : goal.returns
returns c = rw (lt-ltb c.args.n c.args.part.len c.if-len-n.false) c.lane_from.ensures
