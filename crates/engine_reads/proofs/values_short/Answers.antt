-- `engine_reads::values_short` meets its contract.
use Rattle.engine_reads.proofs.values_short.Goals as goal

pub returns : goal.returns
returns c = rw c.values.ensures
