-- `slots_tables::write_tables` meets its contract.
use Rattle.list.specs.Part.{part}
use Rattle.slots_tables.specs.Tables.{with_tables}
use Rattle.slots_tables.proofs.write_tables.Goals as goal

pub returns : goal.returns
unfolding with_tables part
returns c = c.copy_part.ensures
