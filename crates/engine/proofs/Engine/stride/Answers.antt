-- `Engine::stride` meets its contract.
use Rattle.model.specs.Outputs.{engine_stride}
use Rattle.engine.proofs.Engine.stride.Goals as goal

pub returns : goal.returns
unfolding engine_stride
returns c = c.lane_stride.ensures
