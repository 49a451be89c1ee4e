-- `decimal::mark` meets its contract. Assumes nothing.
use mathlib.Core.Path.{sym, ap, ◌∙◌}
use Rattle.decimal.specs.Decimal.{past}
use Rattle.decimal.proofs.Rows.{mark-yes, mark-no}
use Rattle.decimal.proofs.mark.Goals as goal

pub returns-then-has_point : goal.returns-then-has_point
returns-then-has_point c = c.past.ensures ∙ ap past c.after_point.ensures ∙ sym (mark-yes _ (sym c.has_point.ensures ∙ c.if-has_point.true))

pub returns : goal.returns
returns c = c.rest.ensures ∙ sym (mark-no _ (sym c.has_point.ensures ∙ c.if-has_point.false))
