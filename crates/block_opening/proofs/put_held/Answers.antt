use mathlib.Core.Path.{◌≡◌, refl, sym, ◌∙◌}
use Prim.Native.Nat.{◌+◌, ◌*◌, ◌<◌}
use native.Mathlib.Omega.{arith}
use lib.ListN.{length, length-set}
use lib.Ieee.{nan}
use Rattle.block_opening.specs.Marks.{passes}
use Rattle.block_opening.proofs.Marks.{held_none, held_more, place_inside}
use borrow.Author.Rules.{rules}
use Rattle.block_opening.proofs.put_held.Goals as goal

pub loop-i-init : goal.loop-i-init
loop-i-init c = (search rules, refl, sym (held_none _ _ _ _ _ _))

pub offset_bounds-held-k : goal.offset_bounds-held-k
offset_bounds-held-k c =
    let l = c.loop-i in
    let a = c.args in
    let h : l.i * a.stride + a.lane < length a.held.now = place_inside a.stride {sources = a.sources} (omega arith) (omega arith) (omega arith) in
    omega (arith, c.held_place-k.ensures)

pub bounds-held-k : goal.bounds-held-k
bounds-held-k c =
    let l = c.loop-i in
    let a = c.args in
    let h : l.i * a.stride + a.lane < length a.held.now = place_inside a.stride {sources = a.sources} (omega arith) (omega arith) (omega arith) in
    omega (arith, c.held_place-k.ensures)

pub offset_bounds-held-k-in-loop-i : goal.offset_bounds-held-k-in-loop-i
offset_bounds-held-k-in-loop-i c =
    let l = c.loop-i in
    let a = c.args in
    let h : l.i * a.stride + a.lane < length a.held.now = place_inside a.stride {sources = a.sources} (omega arith) (omega arith) (omega arith) in
    omega (arith, c.held_place-k.ensures)

pub bounds-held-k-in-loop-i : goal.bounds-held-k-in-loop-i
bounds-held-k-in-loop-i c =
    let l = c.loop-i in
    let a = c.args in
    let h : l.i * a.stride + a.lane < length a.held.now = place_inside a.stride {sources = a.sources} (omega arith) (omega arith) (omega arith) in
    omega (arith, c.held_place-k.ensures)

pub loop-i-preserved : goal.loop-i-preserved
loop-i-preserved c =
    let l = c.loop-i in
    let a = c.args in
    (omega arith, length-set l.held _ _ ∙ l.invariant.1, held_more a.mark (passes a.note) a.stride a.lane a.x a.held.now l.held l.i _ nan _ l.invariant.2 c.held_place-k.ensures c.held_lane.ensures)

pub returns : goal.returns
returns c =
    let l = c.loop-i in
    let e : l.i ≡ c.args.sources = omega arith in
    l.invariant.2 ∙ rw e
