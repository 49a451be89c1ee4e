-- `engine_notes::bit` meets its contract.
use lib.Ieee.{of_bits}
use Rattle.engine_notes.proofs.bit.Goals as goal

pub returns-then-on : goal.returns-then-on
unfolding of_bits
returns-then-on c = simp c.if-on.true

pub returns : goal.returns
unfolding of_bits
returns c = simp c.if-on.false
