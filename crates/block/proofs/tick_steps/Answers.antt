-- `block::tick_steps` meets its contract.
use lib.Ieee.{of_bits}
use Rattle.block.proofs.Steps.{steps-tick, steps-off}
use Rattle.block.proofs.tick_steps.Goals as goal

pub returns-then-phase-eq0 : goal.returns-then-phase-eq0
returns-then-phase-eq0 c = steps-tick c.args.phase _ c.if-phase-eq0.true c.nearest_u64_to_f32.ensures

pub returns : goal.returns
unfolding of_bits
returns c = steps-off c.args.phase c.if-phase-eq0.false
