-- `plan_sweep::step` meets its contract.
use lib.Ieee.{of_bits}
use Rattle.plan_sweep.proofs.Laws.{step-none, step-some}
use Rattle.plan_sweep.proofs.step.Goals as goal

pub returns-then-gain : goal.returns-then-gain
unfolding of_bits
returns-then-gain c = λ l h. step-none _ _ _ c.if-gain.true

pub returns : goal.returns
unfolding of_bits
returns c = λ l h. step-some _ _ _ _ c.if-gain.false (c.add.ensures l h)
