-- `plan_sweep::below` meets its contract.
use Rattle.plan_sweep.proofs.Laws.{below-taken, below_left}
use Rattle.plan_sweep.proofs.below.Goals as goal

pub returns-then-hi-y : goal.returns-then-hi-y
returns-then-hi-y c = below-taken _ _ c.requires c.if-hi-y.true

pub returns : goal.returns
returns c = below_left _ _ c.requires c.if-hi-y.false
