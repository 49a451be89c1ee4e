-- `matrix::create_velocity_to_amp` meets its contract.
use Rattle.matrix.specs.Routes.{create_velocity_to_amp}
use Rattle.matrix.proofs.create_velocity_to_amp.Goals as goal

pub returns : goal.returns
unfolding create_velocity_to_amp
returns c = c.add.ensures
