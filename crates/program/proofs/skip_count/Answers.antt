-- `program::skip_count` meets its contract.
use Rattle.program.specs.Readers.{skip_count}
use Rattle.program.proofs.skip_count.Goals as goal

pub returns : goal.returns
unfolding skip_count
returns c = c.held.ensures
