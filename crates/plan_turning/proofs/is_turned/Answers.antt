-- `plan_turning::is_turned` meets its contract.
use native.Mathlib.Omega.{arith}
use Rattle.plan_sweep.proofs.Kept.{never}
use Rattle.plan_turning.proofs.is_turned.Goals as goal

pub returns-then-len-from : goal.returns-then-len-from
returns-then-len-from c = λ h. never h

pub returns : goal.returns
returns c = λ h. (c.is_swept.ensures h, omega (arith, c.if-len-from.false))
