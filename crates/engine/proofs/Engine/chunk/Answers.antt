-- `Engine::chunk` meets its contract.
use Rattle.engine.proofs.Replies.{chunk-said}
use Rattle.engine.proofs.Engine.chunk.Goals as goal

pub returns : goal.returns
returns c = let r = chunk-said _ _ _ c.chunk_at.ensures in record { value = r.0; reply = r.1 }
