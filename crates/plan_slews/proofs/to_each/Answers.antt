use borrow.Author.Rules.{rules}
use native.Mathlib.Omega.{arith}
use Rattle.plan_slews.proofs.Lanes.{row_more, row-fewer}
use Rattle.plan_slews.proofs.to_each.Goals as goal

pub loop-l-init : goal.loop-l-init
loop-l-init c = (search rules, search rules, search rules, λ t x f s k e m h. absurd (omega arith))

pub loop-l-preserved : goal.loop-l-preserved
loop-l-preserved c = let l = c.loop-l in (
  omega arith,
  l.invariant.1,
  search rules,
  λ t x f s k e.
      row_more _ l.out l.l _ (omega arith) (l.invariant.3 t x f s k e) (c.to_lane.ensures t x f s _ k (e l.l (omega arith)) c.lane_from.ensures),
)

pub returns : goal.returns
returns c = let l = c.loop-l in
    λ t x f s k e. row-fewer _ l.out (omega arith) (l.invariant.3 t x f s k e)
