use mathlib.Core.Path.{◌≡◌, refl, sym, ap, ◌∙◌}
use Prim.Native.Nat.{◌<◌}
use native.Mathlib.Omega.{arith}
use Rattle.model.specs.Counts.{at}
use Rattle.model.specs.Sums.{others}
use Rattle.plan_sum.proofs.Found.{chosen, source-from, aux-from, ground-based, one_lane, route-is}
use Rattle.plan_sum.proofs.Steps.{others-none, others-next}
use Rattle.plan_mix.proofs.Routes.{new-next, stride-small, wide-lanes}
use Rattle.plan_mix.proofs.mix_all.Goals as goal

pub loop-j-init : goal.loop-j-init
loop-j-init c = let u = c.args.job in
    let g = c.ground_of-ground.ensures in
    let r = c.reach_of-reach.ensures in (
      omega arith,
      c.routes_of-routes.ensures.1,
      c.parts_of-parts.ensures.1,
      ground-based u g c.requires.0,
      r.1,
      one_lane u g r.0,
      λ t f s x w k c m re. (λ l b. others-none t f s x l _, λ i h n. absurd (omega arith)),
      wide-lanes u g r.0,
      c.requires.1,
      c.requires.2,
      c.requires.1,
      c.requires.2,
    )

pub mix_route-requires : goal.mix_route-requires
mix_route-requires c = let i = c.loop-j in (i.invariant.3, i.invariant.4, i.invariant.5, i.invariant.7, i.invariant.8, i.invariant.9)

pub loop-j-preserved : goal.loop-j-preserved
loop-j-preserved c = let i = c.loop-j in
    let e = c.mix_route.ensures in
    let index = c.route_index-i in
    let route = c.route_or-route in
    let key = c.source_key-key in
    let place = c.part_index-k in
    let other = c.route_aux_key-other in
    let spare = c.part_index-m in (
      omega (arith, c.loop-j-test.true),
      i.invariant.1,
      i.invariant.2,
      i.invariant.3,
      i.invariant.4,
      i.invariant.5,
      λ t f s x w k o m re.
          let ch = chosen m i.j index.result _ i.invariant.1 index.ensures.1 route.ensures in
          let below : i.j < x.count = omega (arith, c.loop-j-test.true, k.job.mix.count, m.count) in
          let here =
          e.3 t f s x w k o ch re below (source-from m route.result key.result place.result _ i.invariant.2 key.ensures place.ensures.1 c.part_or-source.ensures)
          (aux-from m route.result other.result spare.result _ i.invariant.2 other.ensures spare.ensures.1 c.part_or-aux.ensures) in
          let was = i.invariant.6 t f s x w k o m re in (
            λ l u. others-next t f s x l i.j _ (at i.sums l) _ (was.0 l u) (here.0 l u),
            new-next t x f s i.j route.result i.new c.mix_route.new.new (stride-small t w m.ground i.invariant.3 k.reads.stride) e.2 (route-is i.j k.job below ch.route) here.1 was.1,
          ),
      i.invariant.7,
      e.0,
      e.1,
      i.invariant.10,
      i.invariant.11,
    )

pub shape_of-new : goal.shape_of-new
shape_of-new c = c.loop-j.invariant.8 ∙ sym c.loop-j.invariant.10

pub shape_of-sums : goal.shape_of-sums
shape_of-sums c = c.loop-j.invariant.9 ∙ sym c.loop-j.invariant.11

pub returns : goal.returns
returns c = let i = c.loop-j in
    let r = c.reach_of-reach.ensures in
    let n = c.counted-count.ensures.0 in (
      i.invariant.8,
      i.invariant.9,
      λ t f s x k o.
          let q : i.j ≡ x.count = omega (arith, k.job.mix.count, n) in
          let all =
          i.invariant.6 t f s x c.args.job k o
          (record { ground = c.ground_of-ground.ensures; routes = c.routes_of-routes.ensures.0; parts = c.parts_of-parts.ensures.0; first = refl; count = n })
          (r.2 t k.job.scene) in
          (λ l u. all.0 l (rw r.0 u) ∙ ap (others t f s x l _) q, λ j h g. all.1 j (omega (arith, q)) g),
    )
