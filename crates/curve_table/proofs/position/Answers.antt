-- `curve_table::position` meets its contract.
use lib.Ieee.{of_bits}
use Rattle.curve_table.specs.Table.{position}
use Rattle.curve_table.proofs.position.Goals as goal

pub returns : goal.returns
unfolding position of_bits
returns c = rw c.clamp.ensures
