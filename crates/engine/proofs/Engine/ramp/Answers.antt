-- `Engine::ramp` meets its contract.
use Rattle.engine.proofs.Replies.{ramp-said}
use borrow.Author.Rules.{rules}
use Rattle.engine.proofs.Engine.ramp.Goals as goal

pub returns : goal.returns
returns c = record { value = search rules; reply = ramp-said _ _ _ _ _ _ c.ramp.ensures.0 }
