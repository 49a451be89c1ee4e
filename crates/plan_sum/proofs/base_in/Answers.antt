-- `plan_sum::base_in` meets its contract.
use Rattle.plan_sum.proofs.Found.{base-of}
use Rattle.plan_sum.proofs.base_in.Goals as goal

pub returns : goal.returns
returns c = λ t x w g b. base-of w g b c.base_by.ensures
