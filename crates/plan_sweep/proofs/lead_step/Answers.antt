-- `plan_sweep::lead_step` meets its contract.
use mathlib.Core.Path.{refl}
use native.Mathlib.Omega.{arith}
use Rattle.lane_input.proofs.Tests.{was-true}
use Rattle.plan_sweep.proofs.lead_step.Goals as goal

pub returns-then-not-route : goal.returns-then-not-route
returns-then-not-route c = λ h. absurd (omega arith)

pub returns-then-key-ge-SOURCES : goal.returns-then-key-ge-SOURCES
returns-then-key-ge-SOURCES c = λ h. absurd (omega arith)

pub returns-then-slot-ge-SLOTS : goal.returns-then-slot-ge-SLOTS
returns-then-slot-ge-SLOTS c = λ h. absurd (omega arith)

pub returns : goal.returns
returns c = λ h. (was-true refl c.if-not-route.false, omega arith, omega arith, c.part_step.ensures h)
