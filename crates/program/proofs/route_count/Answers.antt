-- `program::route_count` meets its contract.
use Rattle.program.specs.Readers.{route_count}
use Rattle.program.proofs.route_count.Goals as goal

pub returns : goal.returns
unfolding route_count
returns c = c.held.ensures
