-- `curve_table::cell_of` meets its contract.
use mathlib.Core.Path.{ap, ◌∙◌}
use Rattle.curve_table.specs.Table.{cell_at, cell_of}
use Rattle.curve_table.proofs.cell_of.Goals as goal

pub returns : goal.returns
unfolding cell_of
returns c = c.cell_at.ensures ∙ ap cell_at c.position.ensures
