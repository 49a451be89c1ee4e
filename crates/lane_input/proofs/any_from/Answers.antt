use mathlib.Core.Path.{◌≡◌, refl, sym, ◌∙◌}
use native.Mathlib.Omega.{arith}
use Rattle.lane_input.proofs.Marks.{any_found, any_next}
use Rattle.lane_input.proofs.any_from.Goals as goal

pub loop-i-init : goal.loop-i-init
loop-i-init c = (omega arith, refl)

pub returns-then-mark_from : goal.returns-then-mark_from
returns-then-mark_from c = let l = c.loop-i in
    let a = c.args in
    sym (any_found a.marks a.k l.i a.c (omega arith) (sym c.mark_from.ensures ∙ c.if-mark_from.true))

pub loop-i-preserved : goal.loop-i-preserved
loop-i-preserved c = let l = c.loop-i in
    let a = c.args in
    (omega arith, any_next a.marks a.k l.i l.invariant.1 (sym c.mark_from.ensures ∙ c.if-mark_from.false))

pub returns : goal.returns
returns c = let e : c.loop-i.i ≡ c.args.c = omega arith in
    sym (rw e at c.loop-i.invariant.1)
