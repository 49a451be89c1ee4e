-- `engine_reads::chunk_count` meets its contract.
use Rattle.model.specs.Outputs.{chunk_count}
use Rattle.engine_reads.proofs.chunk_count.Goals as goal

pub returns : goal.returns
unfolding chunk_count
returns c = c.total.ensures
