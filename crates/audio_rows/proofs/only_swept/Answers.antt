-- `audio_rows::only_swept` meets its contract.
use native.Mathlib.Omega.{arith}
use Rattle.plan_sweep.proofs.Kept.{never}
use Rattle.audio_rows.proofs.only_swept.Goals as goal

pub returns-then-sweeping-gt0 : goal.returns-then-sweeping-gt0
returns-then-sweeping-gt0 c = λ h. never h

pub returns : goal.returns
returns c = λ h. record { control = omega (arith, c.if-sweeping-gt0.false); swept = c.each_swept.ensures h }
