-- `plan_turning::field_at` meets its contract.
use Rattle.plan_sweep.proofs.Kept.{never}
use Rattle.plan_turning.proofs.Turned.{no_field}
use Rattle.plan_turning.proofs.field_at.Goals as goal

pub returns-then-not-some : goal.returns-then-not-some
returns-then-not-some c = let a = c.args in rw c.no_field.ensures (no_field a.active a.stride, λ h. never h)

pub returns-then-up_to-frame : goal.returns-then-up_to-frame
returns-then-up_to-frame c = let a = c.args in rw c.no_field-then-up_to-frame.ensures (no_field a.active a.stride, λ h. never h)

pub returns-then-up_to-gt-FRAMES : goal.returns-then-up_to-gt-FRAMES
returns-then-up_to-gt-FRAMES c = let a = c.args in rw c.no_field-then-up_to-gt-FRAMES.ensures (no_field a.active a.stride, λ h. never h)
