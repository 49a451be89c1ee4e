-- `program::plan_count` meets its contract.
use Rattle.program.specs.Readers.{plan_count}
use Rattle.program.proofs.plan_count.Goals as goal

pub returns : goal.returns
unfolding plan_count
returns c = c.held.ensures
