-- `plan_sum::lane_count` meets its contract.
use native.Mathlib.Omega.{arith}
use Rattle.plan_sum.proofs.lane_count.Goals as goal

pub returns-then-plan : goal.returns-then-plan
returns-then-plan c = (rw c.if-plan.true, c.requires.stride)

pub returns : goal.returns
returns c = (rw c.if-plan.false, omega arith)
