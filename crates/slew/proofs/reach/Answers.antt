-- `slew::reach` meets its contract.
use lib.Ieee.{of_bits}
use Rattle.slew.specs.Slew.{reach}
use Rattle.slew.proofs.reach.Goals as goal

pub returns-then-steps : goal.returns-then-steps
unfolding reach of_bits
returns-then-steps c = simp c.if-steps.true

pub returns-else-steps : goal.returns-else-steps
unfolding reach of_bits
returns-else-steps c = simp c.if-steps.false
