-- `lane_input::in_span` meets its contract.
use mathlib.Core.Path.{ap}
use mathlib.Core.Bool.{not}
use Rattle.model.specs.Lanes.{in_span}
use Rattle.lane_input.proofs.Tests.{was-true, was-false}
use Rattle.lane_input.proofs.in_span.Goals as goal

pub returns-then-any_from : goal.returns-then-any_from
unfolding in_span
returns-then-any_from c = λ t e d. rw (e, d, ← c.group_of-group.ensures.0, was-true c.any_from.ensures (ap not c.if-any_from.true), ← c.saturating_sub.ensures) c.any_from-then-any_from.ensures

pub returns-else-any_from : goal.returns-else-any_from
unfolding in_span
returns-else-any_from c = λ t e d. rw (e, d, ← c.group_of-group.ensures.0, was-false c.any_from.ensures (ap not c.if-any_from.false)) c.if-any_from.false
