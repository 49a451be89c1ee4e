-- `block::glided` meets its contract.
use native.Mathlib.Omega.{arith}
use Rattle.model.specs.States.{with_velocity, with_key}
use Rattle.block.proofs.Steps.{held-fit, glided-is, glided-keeps}
use Rattle.block.proofs.glided.Goals as goal

pub moved_held-requires : goal.moved_held-requires
moved_held-requires c =
    held-fit c.args.state _ _ _ _ c.lane_stride-stride.ensures c.at_most-sources.ensures c.at_most-n.ensures c.requires

pub moved_held-requires-2 : goal.moved_held-requires-2
moved_held-requires-2 c =
    held-fit c.args.state _ _ _ _ c.lane_stride-stride.ensures c.at_most-sources.ensures c.at_most-n.ensures (omega (arith, c.requires))

pub returns : goal.returns
unfolding with_velocity with_key
returns c =
    let a = c.args in (
      λ g d v b t. glided-is a.frames a.state a.held.now g d v b t _ _ _ _ _ _ _ c.lane_stride-stride.ensures c.at_most-sources.ensures c.at_most-n.ensures c.advance-velocity_next.ensures c.advance-key_next.ensures c.moved_held.ensures c.moved_held-2.ensures,
      glided-keeps a.state c.advance-velocity_next.result c.advance-key_next.result,
    )
