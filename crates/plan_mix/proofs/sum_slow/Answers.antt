-- `plan_mix::sum_slow` meets its contract.
use native.Mathlib.Omega.{arith}
use lib.Ieee.{Float}
use Rattle.model.specs.Lanes.{addend}
use Rattle.model.specs.Sums.{add_lane}
use Rattle.plan_slews.proofs.Lanes.{row_put}
use Rattle.plan_mix.proofs.Laws.{row-long, through}
use Rattle.plan_mix.proofs.sum_slow.Goals as goal

pub returns : goal.returns
returns c = let a = c.args in
    let put = c.put_row.ensures in (
      row-long a.sums.now _ _ 64 64 put c.requires.3,
      λ t f s j re v l u.
          through (λ (z : Float). add_lane t f s j a.route z (addend t a.voice a.route.voice l)) a.sums.now l (row_put a.sums.now _ _ 64 put (omega (arith, c.requires.3)) l (omega (arith, c.requires.1))) (c.other_lanes-out.ensures t f s j re v l u) (c.row_from-row.ensures l (omega (arith, c.requires.1))),
    )
