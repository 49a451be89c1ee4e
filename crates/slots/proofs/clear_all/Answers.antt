use mathlib.Core.Path.{ap, ◌∙◌}
use Prim.Native.Nat.{◌<◌}
use native.Mathlib.Omega.{arith}
use lib.ListN.{length}
use Rattle.list.proofs.Elements.{get_or-inside}
use Rattle.list.proofs.Filled.{filled_none, filled-read, filled_more, filled-all}
use Rattle.slots.specs.Slots.{empty_slot, cleared}
use Rattle.slots.proofs.Laws.{map-fill}
use Rattle.slots.proofs.clear_all.Goals as goal

pub loop-s-init : goal.loop-s-init
loop-s-init c = filled_none _ _

pub loop-s-preserved : goal.loop-s-preserved
loop-s-preserved c =
    let f = c.loop-s.invariant in
    let l = c.loop-s in
    let inside : l.s-index < length l.s-items = omega arith in
    filled_more f (c.clear.ensures ∙ ap (cleared c.args.target) (get_or-inside l.s-items l.s-index _ empty_slot inside ∙ filled-read empty_slot f))

pub returns : goal.returns
returns c =
    let a = c.args in
    filled-all c.loop-s.invariant (omega arith) ∙ map-fill (cleared a.target) a.slot empty_slot
