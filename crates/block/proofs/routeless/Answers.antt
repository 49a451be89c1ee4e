-- `block::routeless` meets its contract.
use native.Mathlib.Omega.{arith}
use mathlib.Core.Path.{◌∙◌, ap}
use Rattle.model.specs.Process.{no_block}
use Rattle.block.specs.Worlds.{closed_world, routeless_world}
use Rattle.block.proofs.Steps.{held-fit, glided-is}
use Rattle.block.proofs.routeless.Goals as goal

pub moved_held-requires : goal.moved_held-requires
moved_held-requires c =
    held-fit c.args.state _ _ _ _ c.lane_stride-stride.ensures c.at_most-sources.ensures c.at_most-n.ensures c.requires

pub moved_held-requires-2 : goal.moved_held-requires-2
moved_held-requires-2 c =
    held-fit c.args.state _ _ _ _ c.lane_stride-stride.ensures c.at_most-sources.ensures c.at_most-n.ensures (omega (arith, c.requires))

pub returns : goal.returns
unfolding routeless_world
returns c =
    let a = c.args in
    λ g d v b t. c.quiet.ensures _ g d v b t ∙ ap (closed_world no_block a.len) (glided-is a.len a.state a.held.now g d v b t _ _ _ _ _ _ _ c.lane_stride-stride.ensures c.at_most-sources.ensures c.at_most-n.ensures c.advance-velocity_next.ensures c.advance-key_next.ensures c.moved_held.ensures c.moved_held-2.ensures)
