-- `lane_input::plan_to` meets its contract.
use native.Mathlib.Omega.{arith}
use Rattle.lane_input.proofs.Numbers.{product-bound}
use Rattle.lane_input.proofs.plan_to.Goals as goal

pub overflow_mul-result : goal.overflow_mul-result
overflow_mul-result c = omega (arith, product-bound c.args.plan c.plan_size-size.result 255 17024 (omega arith) c.plan_size-size.ensures.1)

pub overflow_add-result : goal.overflow_add-result
overflow_add-result c = omega (arith, product-bound c.args.plan c.plan_size-size.result 255 17024 (omega arith) c.plan_size-size.ensures.1)

pub returns : goal.returns
returns c = rw c.plan_size-size.ensures.0
