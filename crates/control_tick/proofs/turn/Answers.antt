-- `control_tick::turn` meets its contract. The slews are put before the rows, which the definition puts first: they lie apart.
use borrow.Author.Rules.{rules}
use mathlib.Core.Path.{refl}
use Prim.Native.Nat.{◌+◌}
use Rattle.model.specs.Mix.{plan_mix}
use Rattle.lane_input.specs.Reads.{plan_rows}
use Rattle.lane.specs.View.{own_rows}
use Rattle.control_tick.proofs.Turned.{row-wide, sums-of, mix-is, lies-of, ticks-of, turn-of}
use Rattle.control_tick.proofs.turn.Goals as goal

pub put_slews-requires : goal.put_slews-requires
put_slews-requires c = c.requires.0

pub returns : goal.returns
returns c =
    let a = c.args in
    let w = a.job in
    let m = a.values.now in
    let low = c.plan_from-from.result in
    λ st t of k.
    let x = plan_mix st a.d in
    let f = plan_rows w.scene.stride w.chunks m in
    let s = own_rows w.scene.stride w.chunks w.plans w.plan.first m in
    let n = c.lane_count-n.ensures.0 in
    let by = ticks-of st t a.d w m _ _ _ _ _ of k a.phase c.tick_of-tick.ensures in
    let both = c.held_sums-sums.ensures t f s x (sums-of st t a.d w m _ _ _ _ _ of k) in
    let held = row-wide _ c.held_sums-sums.result n both.0 in
    turn-of st t a.d w m _ _ _ _ _ of k a.phase c.lane_count-n.result low (low + w.scene.stride) c.from_row-starts.result c.to_row-ends.result _ _ _ c.requires.1
    c.tick_of-tick.ensures
    n
    c.plan_from-from.ensures.0
    refl
    (c.from_row-starts.ensures t x f s by held)
    (c.to_row-ends.ensures t x f s by held)
    (c.put_slews.ensures t x st a.d k.scene.stride (mix-is st t a.d w m _ _ _ _ _ of k) (lies-of st t a.d w m _ _ _ _ _ of k) both.1)
    c.put_row.ensures
    c.put_row-2.ensures
