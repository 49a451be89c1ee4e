-- `Engine::bare` meets its contract.
use Rattle.engine.proofs.Engine.bare.Goals as goal

pub returns : goal.returns
returns c = c.refused_state-state.ensures
