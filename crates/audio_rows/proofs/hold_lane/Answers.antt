-- `audio_rows::hold_lane` meets its contract.
use mathlib.Core.Path.{ap}
use mathlib.Core.Bool.{not}
use Rattle.number.specs.Number.{hold}
use Rattle.model.specs.Lanes.{in_span}
use Rattle.audio_rows.proofs.Numbers.{taken, in-span, out-of-span}
use Rattle.audio_rows.proofs.hold_lane.Goals as goal

pub returns-then-not-whole : goal.returns-then-not-whole
returns-then-not-whole c = let a = c.args in
    λ t sc. taken a.whole (in_span t a.lane) _ a.x (ap not c.if-not-whole.true) c.held.ensures

pub returns-then-in_span : goal.returns-then-in_span
returns-then-in_span c = let a = c.args in
    λ t sc. in-span a.whole _ a.x (ap not c.if-not-whole.false) (c.in_span.ensures t (rw sc.voices) sc.stride) c.if-in_span.true c.held-then-in_span.ensures

pub returns : goal.returns
returns c = let a = c.args in
    λ t sc. out-of-span a.whole (hold a.job.plan.min a.job.plan.max a.x) a.x (ap not c.if-not-whole.false) (c.in_span.ensures t (rw sc.voices) sc.stride) c.if-in_span.false
