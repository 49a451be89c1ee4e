-- `plan_sweep::after` meets its contract.
use Rattle.plan_sweep.proofs.after.Goals as goal

pub returns : goal.returns
returns c = rw c.last.ensures
