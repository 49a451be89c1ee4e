-- `plan_sum::span_of` meets its contract.
use mathlib.Core.Path.{sym, ◌∙◌}
use Prim.Native.Nat.{◌<◌}
use native.Mathlib.Omega.{arith}
use Rattle.plan_sum.proofs.Spans.{span-is}
use Rattle.plan_sum.proofs.span_of.Goals as goal

pub returns : goal.returns
returns c = let a = c.args in
    let pre = c.requires in
    let o = c.span_within.ensures in (
      o.0,
      o.1,
      λ t sc l h.
          let b : l < a.job.scene.stride = omega (arith, sc.stride, h) in
          let m : l < 64 = omega (arith, pre.stride, b) in
          span-is t l _ _ (rw sc.voices) sc.stride (c.span_first.ensures l m) (c.span_end.ensures l m) ∙ sym (o.2 l b),
    )
