-- `block::closed` meets its contract.
use mathlib.Core.Path.{refl}
use Rattle.model.specs.States.{with_phase, with_marks, with_block}
use Rattle.block.proofs.Blocks.{closed_is}
use Rattle.block.proofs.closed.Goals as goal

pub returns : goal.returns
unfolding with_phase with_marks with_block
returns c =
    let a = c.args in
    λ h g d v b t. closed_is a.state h g d v b t a.block a.len _ _ refl c.cleared-cleared.ensures
