-- `plan_sum::span_first` meets its contract.
use mathlib.Core.Path.{refl, sym, ◌∙◌}
use Rattle.plan_sum.proofs.Spans.{first-at, first_past}
use Rattle.plan_sum.proofs.span_first.Goals as goal

pub returns-then-any_from : goal.returns-then-any_from
returns-then-any_from c = λ l h. first-at _ 0 l refl refl (sym c.any_from.ensures ∙ c.if-any_from.true)

pub returns-then-any_from-2 : goal.returns-then-any_from-2
returns-then-any_from-2 c = λ l h. first-at _ 16 l refl (sym c.any_from.ensures ∙ c.if-any_from.false) (sym c.any_from-2.ensures ∙ c.if-any_from-2.true)

pub returns-then-any_from-3 : goal.returns-then-any_from-3
returns-then-any_from-3 c = λ l h. first-at _ 32 l refl (sym c.any_from-2.ensures ∙ c.if-any_from-2.false) (sym c.any_from-3.ensures ∙ c.if-any_from-3.true)

pub returns-then-any_from-4 : goal.returns-then-any_from-4
returns-then-any_from-4 c = λ l h. first-at _ 48 l refl (sym c.any_from-3.ensures ∙ c.if-any_from-3.false) (sym c.any_from-4.ensures ∙ c.if-any_from-4.true)

pub returns : goal.returns
returns c = λ l h. first_past _ 64 l h refl (sym c.any_from-4.ensures ∙ c.if-any_from-4.false)
