-- `state_registry::no_dest` meets its contract.
use Rattle.state_registry.proofs.no_dest.Goals as goal

pub returns : goal.returns
returns c = rw c.not_a_number-min.ensures
