-- `plan_mix::rest_route` meets its contract.
use native.Mathlib.Omega.{arith}
use Rattle.model.specs.Sums.{other_step}
use Rattle.plan_slews.proofs.Lanes.{row_put}
use Rattle.plan_mix.proofs.Laws.{row-long, through}
use Rattle.plan_mix.proofs.rest_route.Goals as goal

pub returns : goal.returns
returns c = let a = c.args in
    let put = c.put_row.ensures in (
      row-long a.sums.now _ _ 64 64 put c.requires.3,
      λ t f s x w k z ch re h q p l u.
          through (other_step t f s x a.j l (x.route a.j)) a.sums.now l (row_put a.sums.now _ _ 64 put (omega (arith, c.requires.3)) l (omega (arith, c.requires.1))) (c.add_other-out.ensures t f s x w k z ch re h q p l u) (c.row_from-row.ensures l (omega (arith, c.requires.1))),
    )
