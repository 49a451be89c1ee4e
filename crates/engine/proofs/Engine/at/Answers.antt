-- `Engine::at` meets its contract.
use Rattle.engine.proofs.Replies.{at-said}
use Rattle.engine.proofs.Engine.at.Goals as goal

pub returns : goal.returns
returns c = let r = at-said _ _ _ _ _ _ c.at.ensures in record { value = r.0; reply = r.1 }
