-- `engine_notes::table_at` meets its contract.
use Prim.Native.Nat.{◌+◌}
use native.Mathlib.Omega.{arith}
use borrow.Author.Rules.{rules}
use lib.Dec.{le→leb}
use lib.Ieee.{in_float, nan}
use Rattle.list.proofs.Rows.{row-at}
use Rattle.curve_table.specs.Table.{cell_of, part_of, lookup_of, cell_at, position}
use Rattle.engine_notes.proofs.table_at.Goals as goal

pub int_to_float-result : goal.int_to_float-result
unfolding in_float
int_to_float-result c = le→leb c.cell_at-i.result 16777216 (search rules)

pub returns : goal.returns
unfolding cell_of part_of lookup_of
returns c =
    let a = c.args in
    rw (c.read-b.ensures, c.read-a.ensures, c.not_a_number-2.ensures, c.not_a_number.ensures, c.cell_at-i.ensures, c.position-p.ensures, row-at a.tables.now 513 a.place (cell_at (position a.x)) nan (omega arith), row-at a.tables.now 513 a.place (cell_at (position a.x) + 1) nan (omega arith))
