-- `block::glides_of` meets its contract.
use Rattle.block.proofs.Moves.{glides-are}
use Rattle.block.proofs.glides_of.Goals as goal

pub returns : goal.returns
returns c = glides-are c.args.state _ _ _ c.lane_stride-stride.ensures c.at_most-sources.ensures c.at_most-voices.ensures
