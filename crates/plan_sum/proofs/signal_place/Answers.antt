-- `plan_sum::signal_place` meets its contract.
use mathlib.Core.Bool.{not}
use mathlib.Core.Path.{refl, ap, ◌∙◌}
use Prim.Native.Nat.{◌+◌, ◌*◌, ◌≤◌}
use native.Mathlib.Omega.{arith}
use Rattle.lane_input.proofs.Tests.{was-true}
use Rattle.plan_sum.proofs.Places.{row_below, sample-at}
use Rattle.plan_sum.proofs.signal_place.Goals as goal

pub overflow_mul-frame : goal.overflow_mul-frame
overflow_mul-frame c = let a = c.args in omega (arith, row_below a.frame c.part_stride-wide.result a.part.len c.part_stride-wide.ensures.1 (omega arith))

pub returns : goal.returns
returns c = λ h m.
    let a = c.args in
    let w = c.part_stride-wide in
    let o = c.frame_place.ensures h m in
    let row : a.frame * w.result + w.result ≤ a.part.len = row_below a.frame w.result a.part.len w.ensures.1 (omega arith) in
    (o.0, λ z e l k. o.1 z (λ l k. e l (was-true refl (ap not c.if-not-voice.false)) ∙ sample-at _ a.part a.frame l w.result w.ensures.0 (omega arith) row) l k)
