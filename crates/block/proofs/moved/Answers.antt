-- `block::moved` meets its contract.
use mathlib.Core.Path.{refl}
use Rattle.model.specs.States.{with_velocity, with_key, with_primed}
use Rattle.block.proofs.moved.Goals as goal

pub returns : goal.returns
unfolding with_velocity with_key with_primed
returns c = refl
