-- `Engine::with_draw` meets its contract.
use mathlib.Core.Path.{refl}
use Rattle.model.specs.States.{with_draw}
use Rattle.engine.proofs.Engine.with_draw.Goals as goal

pub returns : goal.returns
unfolding with_draw
returns c = refl
