-- `decimal::after_point` meets its contract. Assumes nothing.
use mathlib.Core.Path.{sym, ap, ◌∙◌}
use lib.ListN.{drop}
use Rattle.decimal.proofs.Rows.{after_point-yes, after_point-no}
use Rattle.decimal.proofs.after_point.Goals as goal

pub returns-then-has_point : goal.returns-then-has_point
returns-then-has_point c = c.tail.ensures ∙ ap (drop 1) c.rest.ensures ∙ sym (after_point-yes _ (sym c.has_point.ensures ∙ c.if-has_point.true))

pub returns : goal.returns
returns c = sym (after_point-no _ (sym c.has_point.ensures ∙ c.if-has_point.false))
