-- `plan_turning::steady` meets its contract.
use mathlib.Core.Path.{refl}
use Rattle.lane_input.proofs.Tests.{was-true}
use Rattle.plan_sweep.proofs.Kept.{never}
use Rattle.plan_turning.proofs.Rows.{quiet}
use Rattle.plan_turning.proofs.steady.Goals as goal

pub returns-then-not-tick : goal.returns-then-not-tick
returns-then-not-tick c = λ h. never h

pub returns : goal.returns
returns c = λ h. (was-true refl c.if-not-tick.false, quiet h)
