-- `block_opening::load_value` meets its contract.
use lib.Ieee.{of_bits}
use Rattle.block_opening.proofs.Marks.{load-steps}
use Rattle.block_opening.proofs.load_value.Goals as goal

pub returns : goal.returns
unfolding of_bits
returns c = load-steps _ _ _ _ _ _ _ _ c.at_most.ensures c.active_count-active.ensures c.nearest_u64_to_f32-many.ensures c.nearest_u64_to_f32-most.ensures c.min.ensures
