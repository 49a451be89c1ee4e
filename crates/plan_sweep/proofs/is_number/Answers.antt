-- `plan_sweep::is_number` meets its contract.
use Rattle.plan_sweep.proofs.Kept.{number_is}
use Rattle.plan_sweep.proofs.is_number.Goals as goal

pub returns : goal.returns
returns c = λ h. number_is c.args.x h
