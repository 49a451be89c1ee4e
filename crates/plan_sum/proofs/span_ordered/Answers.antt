-- `plan_sum::span_ordered` meets its contract.
use native.Mathlib.Omega.{arith}
use Rattle.plan_sum.proofs.Spans.{none_between}
use Rattle.plan_sum.proofs.span_ordered.Goals as goal

pub returns-then-end-first : goal.returns-then-end-first
returns-then-end-first c = let a = c.args in (omega arith, omega arith, λ l. none_between a.first a.end l c.if-end-first.true)
