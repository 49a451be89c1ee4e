-- `Engine::program` meets its contract.
use mathlib.Core.Path.{refl}
use Rattle.model.specs.Outputs.{engine_program}
use Rattle.engine.proofs.Engine.program.Goals as goal

pub returns : goal.returns
unfolding engine_program
returns c = refl
