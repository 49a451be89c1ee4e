-- `plan_sweep::is_swept` meets its contract.
use mathlib.Core.Path.{ap}
use mathlib.Core.Bool.{not}
use mathlib.Core.Path.{refl}
use native.Mathlib.Omega.{arith}
use Rattle.lane_input.proofs.Tests.{was-true}
use Rattle.plan_sweep.proofs.Kept.{never, positive}
use Rattle.plan_sweep.proofs.is_swept.Goals as goal

pub returns-then-not-field : goal.returns-then-not-field
returns-then-not-field c = λ h. never h

pub returns-then-not-plan : goal.returns-then-not-plan
returns-then-not-plan c = λ h. never h

pub returns-then-count-eq0 : goal.returns-then-count-eq0
returns-then-count-eq0 c = λ h. never h

pub returns-then-first-gt-SLOTS : goal.returns-then-first-gt-SLOTS
returns-then-first-gt-SLOTS c = λ h. never h

pub returns-then-first-count : goal.returns-then-first-count
returns-then-first-count c = λ h. never h

pub returns-then-not-is_number : goal.returns-then-not-is_number
returns-then-not-is_number c = λ h. never h

pub returns : goal.returns
returns c = λ h.
    record {
      on = was-true refl c.if-not-field.false;
      voice = was-true refl c.if-not-plan.false;
      some = positive _ c.if-count-eq0.false;
      routes = omega (arith, c.if-first-count.false, c.if-first-gt-SLOTS.false);
      number = c.is_number.ensures (was-true refl (ap not c.if-not-is_number.false));
      led = c.all_led.ensures h;
    }
