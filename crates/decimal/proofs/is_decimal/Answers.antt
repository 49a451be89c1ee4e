-- `decimal::is_decimal` meets its contract. Assumes nothing.
use mathlib.Core.Bool.{not}
use mathlib.Core.Path.{ap, ◌∙◌}
use Rattle.decimal.proofs.Rows.{decimal-none, decimal-power, decimal-bare, decimal-point}
use Rattle.decimal.proofs.is_decimal.Goals as goal

pub returns-then-is_power : goal.returns-then-is_power
returns-then-is_power c = c.if-is_power.true ∙ decimal-power _ _ _ c.has_digit.ensures (ap not c.if-has_digit.true) c.is_power.ensures c.if-is_power.true

pub returns-then-has_point : goal.returns-then-has_point
returns-then-has_point c = c.is_empty.ensures ∙ decimal-point _ _ _ _ _ c.has_digit.ensures (ap not c.if-has_digit.true) c.is_power.ensures c.if-is_power.false c.has_point.ensures (ap not c.if-has_point.true) c.mark.ensures

pub returns-else-has_point : goal.returns-else-has_point
returns-else-has_point c = c.if-has_point.false ∙ decimal-bare _ _ _ _ c.has_digit.ensures (ap not c.if-has_digit.true) c.is_power.ensures c.if-is_power.false c.has_point.ensures (ap not c.if-has_point.false)

pub returns-else-has_digit : goal.returns-else-has_digit
returns-else-has_digit c = c.if-has_digit.false ∙ decimal-none _ _ c.has_digit.ensures (ap not c.if-has_digit.false)
