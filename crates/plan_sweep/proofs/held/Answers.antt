-- `plan_sweep::held` meets its contract.
use mathlib.Core.Path.{ap, ◌∙◌}
use lib.Ieee.{is_nan}
use Rattle.plan_sweep.proofs.Laws.{max-number, held-is}
use Rattle.plan_sweep.proofs.held.Goals as goal

pub below-requires : goal.below-requires
below-requires c = ap is_nan c.max.ensures ∙ max-number _ _ c.requires

pub returns : goal.returns
returns c = held-is _ _ _ _ _ c.max.ensures c.below.ensures
