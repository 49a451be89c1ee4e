use mathlib.Core.Path.{refl}
use Prim.Native.Nat.{ℕ, ◌<◌}
use native.Mathlib.Omega.{arith}
use lib.ListN.{length, get_or}
use Rattle.list.proofs.Elements.{get_or-inside, length-mapped}
use Rattle.state_filled.specs.Filled.{no_route}
use Rattle.model.specs.Env.{no_part}
use Rattle.plan_sweep.proofs.Kept.{kept-is, kept_more, blank-more, led-whole}
use borrow.Author.Rules.{rules}
use Rattle.plan_sweep.proofs.lead_routes.Goals as goal

pub loop-i-init : goal.loop-i-init
loop-i-init c =
    (omega arith, c.requires.1, search (rules, length-mapped), search (rules, length-mapped), search rules, search rules, refl, λ i h k. absurd (omega arith))

pub offset_bounds-routes-i : goal.offset_bounds-routes-i
offset_bounds-routes-i c = omega (arith, c.loop-i.invariant.0, c.loop-i.invariant.1.routes, c.loop-i.invariant.1.starts, c.loop-i.invariant.1.steps, c.loop-i.invariant.1.gains, c.loop-i.invariant.1.offsets, c.loop-i.invariant.2, c.loop-i-test.true)

pub bounds-routes-i : goal.bounds-routes-i
bounds-routes-i c = omega (arith, c.loop-i.invariant.0, c.loop-i.invariant.1.routes, c.loop-i.invariant.1.starts, c.loop-i.invariant.1.steps, c.loop-i.invariant.1.gains, c.loop-i.invariant.1.offsets, c.loop-i.invariant.2, c.loop-i-test.true)

pub offset_bounds-starts-i : goal.offset_bounds-starts-i
offset_bounds-starts-i c = omega (arith, c.loop-i.invariant.0, c.loop-i.invariant.1.routes, c.loop-i.invariant.1.starts, c.loop-i.invariant.1.steps, c.loop-i.invariant.1.gains, c.loop-i.invariant.1.offsets, c.loop-i.invariant.2, c.loop-i-test.true)

pub bounds-starts-i : goal.bounds-starts-i
bounds-starts-i c = omega (arith, c.loop-i.invariant.0, c.loop-i.invariant.1.routes, c.loop-i.invariant.1.starts, c.loop-i.invariant.1.steps, c.loop-i.invariant.1.gains, c.loop-i.invariant.1.offsets, c.loop-i.invariant.2, c.loop-i-test.true)

pub offset_bounds-steps-i : goal.offset_bounds-steps-i
offset_bounds-steps-i c = omega (arith, c.loop-i.invariant.0, c.loop-i.invariant.1.routes, c.loop-i.invariant.1.starts, c.loop-i.invariant.1.steps, c.loop-i.invariant.1.gains, c.loop-i.invariant.1.offsets, c.loop-i.invariant.2, c.loop-i-test.true)

pub bounds-steps-i : goal.bounds-steps-i
bounds-steps-i c = omega (arith, c.loop-i.invariant.0, c.loop-i.invariant.1.routes, c.loop-i.invariant.1.starts, c.loop-i.invariant.1.steps, c.loop-i.invariant.1.gains, c.loop-i.invariant.1.offsets, c.loop-i.invariant.2, c.loop-i-test.true)

pub offset_bounds-gains-i : goal.offset_bounds-gains-i
offset_bounds-gains-i c = omega (arith, c.loop-i.invariant.0, c.loop-i.invariant.1.routes, c.loop-i.invariant.1.starts, c.loop-i.invariant.1.steps, c.loop-i.invariant.1.gains, c.loop-i.invariant.1.offsets, c.loop-i.invariant.2, c.loop-i-test.true)

pub bounds-gains-i : goal.bounds-gains-i
bounds-gains-i c = omega (arith, c.loop-i.invariant.0, c.loop-i.invariant.1.routes, c.loop-i.invariant.1.starts, c.loop-i.invariant.1.steps, c.loop-i.invariant.1.gains, c.loop-i.invariant.1.offsets, c.loop-i.invariant.2, c.loop-i-test.true)

pub offset_bounds-offsets-i : goal.offset_bounds-offsets-i
offset_bounds-offsets-i c = omega (arith, c.loop-i.invariant.0, c.loop-i.invariant.1.routes, c.loop-i.invariant.1.starts, c.loop-i.invariant.1.steps, c.loop-i.invariant.1.gains, c.loop-i.invariant.1.offsets, c.loop-i.invariant.2, c.loop-i-test.true)

pub bounds-offsets-i : goal.bounds-offsets-i
bounds-offsets-i c = omega (arith, c.loop-i.invariant.0, c.loop-i.invariant.1.routes, c.loop-i.invariant.1.starts, c.loop-i.invariant.1.steps, c.loop-i.invariant.1.gains, c.loop-i.invariant.1.offsets, c.loop-i.invariant.2, c.loop-i-test.true)

pub loop-i-smaller : goal.loop-i-smaller
loop-i-smaller c = omega (arith, c.loop-i.invariant.0, c.loop-i.invariant.1.routes, c.loop-i.invariant.1.starts, c.loop-i.invariant.1.steps, c.loop-i.invariant.1.gains, c.loop-i.invariant.1.offsets, c.loop-i.invariant.2, c.loop-i-test.true)

pub loop-i-preserved : goal.loop-i-preserved
loop-i-preserved c =
    let i = c.loop-i in
    let v = i.invariant in
    let a = c.args in
    let here = c.loop-i-test.true in
    let step = c.lead_step in
    let slot = c.slot_index-s in
    let part = c.part_index in
    let key = c.route_key-key in
    let k : ℕ = part.result in
    let b = v.1 in
    let near : i.i < length a.routes = omega (arith, v.2, here, b.routes) in
    let there : k < length a.signals.part = omega (arith, v.3, part.ensures.0) in (
      omega (arith, here),
      blank-more i.starts i.steps i.gains i.offsets a.n i.i _ _ _ _ here b,
      v.2,
      v.3,
      v.4,
      v.5,
      v.6,
      kept_more a.routes a.signals.part a.levels.amount a.levels.output a.stride a.up_to (length a.samples.now) i.starts i.steps i.gains i.offsets i.i _ _ _ _ (omega (arith, here, b.routes, b.starts)) (omega (arith, here, b.routes, b.steps)) (omega (arith, here, b.routes, b.gains)) (omega (arith, here, b.routes, b.offsets)) v.7
          (kept-is (get_or a.routes i.i no_route) a.signals.part a.levels.amount a.levels.output a.stride a.up_to (length a.samples.now) key.result k slot.result step.result
          (get_or-inside a.routes i.i _ no_route near) (get_or-inside a.signals.part k _ no_part there)
          key.ensures part.ensures.1 slot.ensures.1 step.ensures),
    )

pub shape_of-starts : goal.shape_of-starts
shape_of-starts c = omega (arith, c.loop-i.invariant.1.starts, c.requires.1.starts)

pub shape_of-steps : goal.shape_of-steps
shape_of-steps c = omega (arith, c.loop-i.invariant.1.steps, c.requires.1.steps)

pub shape_of-gains : goal.shape_of-gains
shape_of-gains c = omega (arith, c.loop-i.invariant.1.gains, c.requires.1.gains)

pub shape_of-offsets : goal.shape_of-offsets
shape_of-offsets c = omega (arith, c.loop-i.invariant.1.offsets, c.requires.1.offsets)

pub returns : goal.returns
returns c =
    let a = c.args in
    let i = c.loop-i in
    led-whole a.signals a.levels a.stride a.up_to a.samples.now a.routes i.starts i.steps i.gains i.offsets a.n i.i (omega (arith, i.invariant.0, c.loop-i-test.false)) i.invariant.1 i.invariant.7
