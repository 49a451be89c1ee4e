-- `plan_sum::plain_lanes` meets its contract.
use mathlib.Core.Path.{refl}
use Rattle.plan_sum.proofs.plain_lanes.Goals as goal

pub returns : goal.returns
returns c = λ t f s j v l b. c.add_at.ensures t f s j v (c.place_of-place.ensures.1 t f s j _ _ refl v) l b
