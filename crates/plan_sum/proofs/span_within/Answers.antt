-- `plan_sum::span_within` meets its contract.
use mathlib.Core.Path.{◌∙◌}
use native.Mathlib.Omega.{arith}
use Rattle.plan_sum.proofs.Spans.{end-within}
use Rattle.plan_sum.proofs.span_within.Goals as goal

pub returns-then-stride-end : goal.returns-then-stride-end
returns-then-stride-end c = let a = c.args in let o = c.span_ordered.ensures in (o.0, o.1, λ l h. o.2 l ∙ end-within a.first a.end a.stride l h c.if-stride-end.true)

pub returns : goal.returns
returns c = let o = c.span_ordered-2.ensures in (o.0, omega (arith, o.1), λ l h. o.2 l)
