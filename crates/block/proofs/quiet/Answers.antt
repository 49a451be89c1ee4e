-- `block::quiet` meets its contract.
use mathlib.Core.Path.{refl, ◌∙◌, ap}
use Rattle.state.specs.declared.Block.{Block}
use Rattle.model.specs.States.{with_phase, with_marks, with_block, with_velocity, with_key}
use Rattle.model.specs.World.{world_of}
use Rattle.block.specs.Worlds.{closed_world}
use Rattle.block.proofs.Blocks.{closed_is}
use Rattle.block.proofs.quiet.Goals as goal

pub returns : goal.returns
unfolding with_phase with_marks with_block with_velocity with_key
returns c =
    let a = c.args in
    let moved = with_key (with_velocity a.state a.velocity) a.key in
    λ h g d v b t. closed_is moved h g d v b t _ a.len _ _ refl c.cleared-cleared.ensures ∙ ap (λ (x : Block). closed_world x a.len (world_of moved h g d v b t)) c.no_block-block.ensures
