-- `block::rowed` meets its contract.
use Rattle.block.proofs.Steps.{rows_fit, rowed-is}
use Rattle.block.proofs.rowed.Goals as goal

pub rows_of_chunk-requires : goal.rows_of_chunk-requires
rows_of_chunk-requires c =
    rows_fit c.args.state c.args.i _ _ _ _ _ c.lane_stride-stride.ensures c.most_chunks-chunks.ensures c.at_most-plans.ensures c.at_most-control.ensures c.requires.0 c.requires.1

pub returns : goal.returns
returns c =
    let a = c.args in
    λ h g d b t.
    rowed-is a.state a.i h g d a.values.now b t _ _ _ _ _ c.at_most-plans.ensures c.at_most-control.ensures c.lane_stride-stride.ensures c.most_chunks-chunks.ensures c.rows_of_chunk.ensures
