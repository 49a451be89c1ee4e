-- `lane_input::look_up` meets its contract.
use borrow.Author.Rules.{rules}
use lib.Dec.{le→leb}
use lib.Ieee.{in_float}
use Rattle.curve_table.specs.Table.{cell_of, part_of, lookup_of}
use Rattle.lane_input.proofs.Rows.{looked-up}
use Rattle.lane_input.proofs.look_up.Goals as goal

pub int_to_float-result : goal.int_to_float-result
unfolding in_float
int_to_float-result c = le→leb c.cell_at-i.result 16777216 (search rules)

pub returns : goal.returns
unfolding cell_of part_of lookup_of
returns c = let a = c.args in
    looked-up a.tables.now a.place c.cell_at-i.result a.u c.position-p.result c.lane_from-a.result c.lane_from-b.result c.position-p.ensures c.cell_at-i.ensures c.lane_from-a.ensures c.lane_from-b.ensures
