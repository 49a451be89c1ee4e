-- `lanes16::value_lanes` meets its contract.
use mathlib.Core.Path.{refl, ◌∙◌}
use Prim.Native.Nat.{◌+◌}
use Rattle.lane.proofs.Values.{value_of}
use Rattle.lanes16.proofs.Laws.{gained-of}
use Rattle.lanes16.proofs.value_lanes.Goals as goal

pub returns : goal.returns
returns c = λ t f s j st rows am ou ld wi l h. let a = c.args in c.times_lanes-2.ensures l h ∙ value_of t f s j (a.lane + l) a.route (c.sourced_lanes-p.ensures t f s j a.lane ld l h) (c.aux_times-x.ensures t f s j a.lane a.route refl wi l h) (c.times_lanes.ensures l h ∙ gained-of t f (a.lane + l) a.route am ou (c.gain_lanes-a.ensures t f st rows l h) (c.gain_lanes-b.ensures t f st rows l h))
