-- `block::scene_of` meets its contract.
use Rattle.block.proofs.scene_of.Goals as goal

pub returns : goal.returns
returns c = rw (c.tick_steps-steps.ensures, c.lane_stride-stride.ensures)
