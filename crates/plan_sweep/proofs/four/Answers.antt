-- `plan_sweep::four` meets its contract.
use Rattle.plan_sweep.proofs.Fours.{four-steps}
use Rattle.plan_sweep.proofs.four.Goals as goal

pub returns : goal.returns
returns c = let a = c.args in
    λ l h. four-steps a.xs.now a.acc c.step-a.result c.step-b.result c.step-c.result c.step.result a.p a.g l (c.step-a.ensures l h) (c.step-b.ensures l h) (c.step-c.ensures l h) (c.step.ensures l h)
