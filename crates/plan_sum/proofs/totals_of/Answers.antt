use mathlib.Core.Path.{◌≡◌, refl}
use native.Mathlib.Omega.{arith}
use lib.Ieee.{of_bits}
use Rattle.plan_sum.proofs.Found.{chosen, source-from}
use Rattle.plan_sum.proofs.Steps.{totalled_none}
use Rattle.plan_sum.proofs.totals_of.Goals as goal

pub loop-j-init : goal.loop-j-init
unfolding of_bits
loop-j-init c = (omega arith, c.routes_of-routes.ensures.1, c.parts_of-parts.ensures.1, λ t x w k m. totalled_none t x refl refl refl)

pub loop-j-preserved : goal.loop-j-preserved
loop-j-preserved c = let i = c.loop-j in (
  omega arith,
  i.invariant.1,
  i.invariant.2,
  λ t x w k m.
      let ch = chosen m i.j c.route_index-i.result _ i.invariant.1 c.route_index-i.ensures.1 c.route_or-route.ensures in
      c.with_route-next.ensures t x w i.j k ch (omega (arith, k.mix.count, m.count)) (source-from m c.route_or-route.result c.source_key-key.result c.part_index-k.result _ i.invariant.2 c.source_key-key.ensures c.part_index-k.ensures.1 c.part_or-part.ensures) (i.invariant.3 t x w k m),
)

pub returns : goal.returns
returns c = λ t x k.
    let l = c.loop-j in
    let e : l.j ≡ x.count = omega (arith, k.mix.count, c.counted-count.ensures.0) in
    rw e at (l.invariant.3 t x c.args.job k (record { ground = c.ground_of-ground.ensures; routes = c.routes_of-routes.ensures.0; parts = c.parts_of-parts.ensures.0; first = refl; count = c.counted-count.ensures.0 }))
