-- `engine_notes::linear_at` meets its contract.
use Prim.Native.Nat.{◌+◌}
use borrow.Author.Rules.{rules}
use lib.Ieee.{of_bits, in_float}
use lib.Dec.{le→leb}
use Rattle.curve_table.specs.Table.{cell_of, part_of}
use Rattle.engine_notes.proofs.linear_at.Goals as goal

pub int_to_float-a : goal.int_to_float-a
unfolding in_float
int_to_float-a c = le→leb c.cell_at-i.result 16777216 (search rules)

pub int_to_float-b : goal.int_to_float-b
unfolding in_float
int_to_float-b c = le→leb (c.cell_at-i.result + 1) 16777216 (search rules)

pub int_to_float-result : goal.int_to_float-result
unfolding in_float
int_to_float-result c = le→leb c.cell_at-i.result 16777216 (search rules)

pub returns : goal.returns
unfolding cell_of part_of of_bits
returns c = rw (c.cell_at-i.ensures, c.position-p.ensures)
