-- `slots_tables::write_table` meets its contract.
use Rattle.list.specs.Rows.{on_row}
use Rattle.slots_tables.specs.Tables.{with_table}
use Rattle.slots_tables.proofs.write_table.Goals as goal

pub returns : goal.returns
unfolding with_table on_row
returns c = c.copy_part.ensures
