-- `plan_sweep::field_of` meets its contract.
use mathlib.Core.Path.{sym, ◌∙◌}
use Prim.Native.Nat.{◌<◌}
use native.Mathlib.Omega.{arith}
use Rattle.plan_sum.proofs.Spans.{span-is}
use Rattle.plan_sweep.proofs.Kept.{fielded}
use Rattle.plan_sweep.proofs.field_of.Goals as goal

pub returns : goal.returns
returns c = let a = c.args in
    let o = c.span_within-span.ensures in
    fielded a.active a.stride a.frames _ _ _ _ o.0 o.1 c.field_on-on.ensures c.sounding.ensures (λ t v w l h.
    let m : l < 64 = omega (arith, c.requires, h) in
    span-is t l _ _ v w (c.span_first.ensures l m) (c.span_end.ensures l m) ∙ sym (o.2 l h))
