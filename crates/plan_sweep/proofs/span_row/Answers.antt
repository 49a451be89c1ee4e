-- `plan_sweep::span_row` meets its contract.
use mathlib.Core.Path.{◌∙◌}
use Rattle.plan_sweep.proofs.Laws.{row-anew}
use Rattle.plan_sweep.proofs.span_row.Goals as goal

pub returns : goal.returns
returns c = c.some_row.ensures ∙ row-anew _ _ _ _ _ _ _ _
