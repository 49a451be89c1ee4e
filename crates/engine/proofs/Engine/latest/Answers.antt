-- `Engine::latest` meets its contract.
use Rattle.engine.proofs.Replies.{latest-said}
use Rattle.engine.proofs.Engine.latest.Goals as goal

pub returns : goal.returns
returns c = let r = latest-said _ _ _ _ _ _ c.latest.ensures in record { value = r.0; reply = r.1 }
