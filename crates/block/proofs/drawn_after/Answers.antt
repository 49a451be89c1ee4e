-- `block::drawn_after` meets its contract.
use Rattle.block.proofs.Blocks.{draws-fit, draws-are}
use Rattle.block.proofs.drawn_after.Goals as goal

pub draw_routes-requires : goal.draw_routes-requires
draw_routes-requires c =
    draws-fit c.args.state _ _ _ _ _ _ c.at_most-routes.ensures c.at_most-plans.ensures c.at_most-n.ensures c.lane_stride-stride.ensures c.most_chunks-chunks.ensures c.requires

pub returns : goal.returns
returns c =
    let a = c.args in
    draws-are a.state _ _ _ _ _ a.values.now _ c.at_most-routes.ensures c.at_most-plans.ensures c.at_most-n.ensures c.lane_stride-stride.ensures c.most_chunks-chunks.ensures c.draw_routes.ensures
