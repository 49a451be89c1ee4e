-- `plan_sum::span_end` meets its contract.
use mathlib.Core.Path.{refl}
use native.Mathlib.Omega.{arith}
use Rattle.plan_sum.proofs.Spans.{end-at, end-past, rested}
use Rattle.plan_sum.proofs.span_end.Goals as goal

pub returns-then-any_from : goal.returns-then-any_from
returns-then-any_from c = λ l h. let a = c.args in end-at _ a.stride 48 l refl (rested _ 48 a.stride c.any_from.ensures c.saturating_sub.ensures c.if-any_from.true) (λ far. absurd (omega arith))

pub returns-then-any_from-2 : goal.returns-then-any_from-2
returns-then-any_from-2 c = λ l h. let a = c.args in end-at _ a.stride 32 l refl (rested _ 32 a.stride c.any_from-2.ensures c.saturating_sub-2.ensures c.if-any_from-2.true) (λ far. rested _ 48 a.stride c.any_from.ensures c.saturating_sub.ensures c.if-any_from.false)

pub returns-then-any_from-3 : goal.returns-then-any_from-3
returns-then-any_from-3 c = λ l h. let a = c.args in end-at _ a.stride 16 l refl (rested _ 16 a.stride c.any_from-3.ensures c.saturating_sub-3.ensures c.if-any_from-3.true) (λ far. rested _ 32 a.stride c.any_from-2.ensures c.saturating_sub-2.ensures c.if-any_from-2.false)

pub returns-then-any_from-4 : goal.returns-then-any_from-4
returns-then-any_from-4 c = λ l h. let a = c.args in end-at _ a.stride 0 l refl (rested _ 0 a.stride c.any_from-4.ensures c.saturating_sub-4.ensures c.if-any_from-4.true) (λ far. rested _ 16 a.stride c.any_from-3.ensures c.saturating_sub-3.ensures c.if-any_from-3.false)

pub returns : goal.returns
returns c = λ l h. let a = c.args in end-past _ a.stride 0 l (omega arith) refl (rested _ 0 a.stride c.any_from-4.ensures c.saturating_sub-4.ensures c.if-any_from-4.false)
