-- `state_registry::known_source` meets its contract.
use Rattle.state_registry.proofs.known_source.Goals as goal

pub returns : goal.returns
returns c = rw c.source_count.ensures
