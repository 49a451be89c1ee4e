-- `slew::rate_per_sample` meets its contract.
use lib.Ieee.{of_bits, div}
use Rattle.slew.specs.Slew.{rate_per_sample}
use Rattle.slew.proofs.rate_per_sample.Goals as goal

pub returns-then-seconds : goal.returns-then-seconds
unfolding rate_per_sample of_bits
returns-then-seconds c = simp c.if-seconds.true

pub returns-else-seconds : goal.returns-else-seconds
unfolding rate_per_sample of_bits div
returns-else-seconds c = simp c.if-seconds.false
