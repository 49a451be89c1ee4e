-- `plan_sum::voice_row` meets its contract.
use native.Mathlib.Omega.{arith}
use Rattle.plan_sum.proofs.Steps.{voice-own, voice-same}
use Rattle.plan_sum.proofs.voice_row.Goals as goal

pub returns-then-route : goal.returns-then-route
returns-then-route c = λ t f s j re v l h. voice-own t f s j _ l _ c.if-route.true (re.groups l (omega (arith, c.requires.1, h))) (c.own_lanes.ensures t f s j re v l h)

pub returns : goal.returns
returns c = λ t f s j re v l h. voice-same t f s j _ l _ c.if-route.false (re.groups l (omega (arith, c.requires.1, h))) (c.lane_value-x.ensures t f s j re.snap re.fresh v) (c.same_lanes.ensures l h)
