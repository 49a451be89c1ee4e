-- `curve_table::lookup` meets its contract.
use borrow.Author.Rules.{rules}
use lib.Dec.{le→leb}
use lib.Ieee.{in_float}
use Rattle.curve_table.specs.Table.{cell_of, part_of, lookup_of}
use Rattle.curve_table.proofs.lookup.Goals as goal

pub int_to_float-result : goal.int_to_float-result
unfolding in_float
int_to_float-result c = le→leb c.cell_at-i.result 16777216 (search rules)

pub returns : goal.returns
unfolding cell_of part_of lookup_of
returns c =
    rw (c.cell_at-i.ensures, c.position-p.ensures)
