-- `curve_table::cell_at` meets its contract.
use native.Mathlib.Omega.{arith}
use Rattle.curve_table.proofs.cell_at.Goals as goal

pub returns-then-whole-lt-LAST_CELL : goal.returns-then-whole-lt-LAST_CELL
returns-then-whole-lt-LAST_CELL c = omega (arith, c.whole_part-whole.ensures)

pub returns-else-whole-lt-LAST_CELL : goal.returns-else-whole-lt-LAST_CELL
returns-else-whole-lt-LAST_CELL c = omega (arith, c.whole_part-whole.ensures)
