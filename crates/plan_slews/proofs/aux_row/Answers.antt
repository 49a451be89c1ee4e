use borrow.Author.Rules.{rules}
use mathlib.Core.Path.{refl}
use native.Mathlib.Omega.{arith}
use Rattle.plan_slews.proofs.Lanes.{row_more, row-fewer}
use Rattle.plan_slews.proofs.aux_row.Goals as goal

pub loop-l-init : goal.loop-l-init
loop-l-init c = (search rules, search rules, search rules, λ t x f s j v q k m h. absurd (omega arith))

pub loop-l-preserved : goal.loop-l-preserved
loop-l-preserved c = let l = c.loop-l in (
  omega arith,
  l.invariant.1,
  search rules,
  λ t x f s j v q k.
      row_more _ l.out l.l _ (omega arith) (l.invariant.3 t x f s j v q k)
      (c.aux_after.ensures t x f s j v q (c.moves-m.ensures t x _ refl k) (c.snap-e.ensures t k.snap k.fresh)),
)

pub returns : goal.returns
returns c = let l = c.loop-l in
    λ t x f s j v q k. row-fewer _ l.out (omega arith) (l.invariant.3 t x f s j v q k)
