-- `program::values_need` meets its contract.
use Rattle.program.specs.Steps.{held_values}
use Rattle.program.proofs.values_need.Goals as goal

pub returns : goal.returns
unfolding held_values
returns c = c.values.ensures
