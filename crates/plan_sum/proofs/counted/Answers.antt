-- `plan_sum::counted` meets its contract.
use mathlib.Core.Path.{refl}
use native.Mathlib.Omega.{arith}
use Rattle.plan_sum.proofs.counted.Goals as goal

pub returns : goal.returns
returns c = (refl, omega arith)
