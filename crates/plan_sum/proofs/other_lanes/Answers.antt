-- `plan_sum::other_lanes` meets its contract.
use mathlib.Core.Path.{◌≡◌}
use native.Mathlib.Omega.{arith}
use Rattle.plan_sum.proofs.other_lanes.Goals as goal

pub returns-then-voice : goal.returns-then-voice
returns-then-voice c = λ t f s j re v l h. rw c.if-voice.true (c.voice_row.ensures t f s j re v l h)

pub returns : goal.returns
returns c = λ t f s j re v l h. let z : l ≡ 0 = omega (arith, c.requires.2 c.if-voice.false, h) in rw (c.if-voice.false, z) (c.one_row.ensures t f s j re v)
