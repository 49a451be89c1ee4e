-- `Engine::output` meets its contract.
use Rattle.engine.proofs.Replies.{output-said}
use Rattle.engine.proofs.Engine.output.Goals as goal

pub returns : goal.returns
returns c = let r = output-said _ _ _ _ _ c.output_shape.ensures in record { value = r.0; reply = r.1 }
