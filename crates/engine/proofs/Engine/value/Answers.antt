-- `Engine::value` meets its contract.
use Rattle.engine.proofs.Replies.{value-said}
use Rattle.engine.proofs.Engine.value.Goals as goal

pub returns : goal.returns
returns c = let r = value-said _ _ _ _ _ _ c.value.ensures in record { value = r.0; reply = r.1 }
