-- `lane::idle` meets its contract.
use mathlib.Core.Path.{ap}
use mathlib.Core.Bool.{not}
use lib.Ieee.{of_bits}
use Rattle.lane_input.proofs.Tests.{was-true, was-false}
use Rattle.lane.proofs.idle.Goals as goal

pub returns-then-not-live_gain : goal.returns-then-not-live_gain
returns-then-not-live_gain c = λ t a o. rw (was-false c.live_gain.ensures (ap not c.if-not-live_gain.true))

pub returns-then-not-live_gain-2 : goal.returns-then-not-live_gain-2
returns-then-not-live_gain-2 c = λ t a o. rw (was-true c.live_gain.ensures (ap not c.if-not-live_gain.false), was-false c.live_gain-2.ensures (ap not c.if-not-live_gain-2.true))

pub returns : goal.returns
unfolding of_bits
returns c = λ t a o. rw (was-true c.live_gain.ensures (ap not c.if-not-live_gain.false), was-true c.live_gain-2.ensures (ap not c.if-not-live_gain-2.false), a, o)
