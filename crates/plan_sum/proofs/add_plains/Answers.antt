use mathlib.Core.Path.{◌≡◌, refl, ap, ◌∙◌}
use Prim.Native.Nat.{ℕ}
use native.Mathlib.Omega.{arith}
use mathlib.Core.Bool.{cond}
use lib.Ieee.{Float}
use Rattle.model.specs.Counts.{at}
use Rattle.model.specs.Lanes.{in_span}
use Rattle.model.specs.Sums.{plains}
use Rattle.plan_sum.proofs.Found.{chosen, source-from, ground-based, ground-stride}
use Rattle.plan_sum.proofs.Steps.{plains-none, plains-next}
use Rattle.plan_sum.proofs.add_plains.Goals as goal

pub loop-j-init : goal.loop-j-init
loop-j-init c = let pre = c.requires in
    let w = c.args.job in
    let g = c.ground_of-ground.ensures in
    (omega arith, c.routes_of-routes.ensures.1, c.parts_of-parts.ensures.1, ground-based w g pre.0, pre.1, ground-stride w g pre.2, λ t f s x w k m sp l b a e. e ∙ ap (λ (z : Float). cond (in_span t l) z a) (plains-none t f s x l))

pub add_plain-next-requires : goal.add_plain-next-requires
add_plain-next-requires c = let i = c.loop-j in (i.invariant.3, i.invariant.4, i.invariant.5)

pub loop-j-preserved : goal.loop-j-preserved
loop-j-preserved c = let i = c.loop-j in (
  omega arith,
  i.invariant.1,
  i.invariant.2,
  i.invariant.3,
  i.invariant.4,
  i.invariant.5,
  λ t f s x w k m sp l b a e.
      let ch = chosen m i.j c.route_index-i.result _ i.invariant.1 c.route_index-i.ensures.1 c.route_or-route.ensures in
      plains-next t f s x l i.j (in_span t l) a (at i.out l) _ (i.invariant.6 t f s x w k m sp l b a e)
      (c.add_plain-next.ensures t f s x w k ch (omega (arith, k.job.mix.count, m.count)) (source-from m c.route_or-route.result c.source_key-key.result c.part_index-k.result _ i.invariant.2 c.source_key-key.ensures c.part_index-k.ensures.1 c.part_or-part.ensures) sp l b),
)

pub returns : goal.returns
returns c = λ t f s x k sp l b a e.
    let i = c.loop-j in
    let q : i.j ≡ x.count = omega (arith, k.job.mix.count, c.counted-count.ensures.0) in
    i.invariant.6 t f s x c.args.job k (record { ground = c.ground_of-ground.ensures; routes = c.routes_of-routes.ensures.0; parts = c.parts_of-parts.ensures.0; first = refl; count = c.counted-count.ensures.0 }) sp l b a e
    ∙ ap (λ (j : ℕ). cond (in_span t l) (plains t f s x l j) a) q
