-- `decimal::read` meets its contract. Assumes nothing.
use mathlib.Core.Bool.{not}
use mathlib.Core.Path.{sym, ap, ◌∙◌}
use Rattle.decimal.specs.Decimal.{decimal_of}
use Rattle.decimal.proofs.Values.{read_is}
use Rattle.decimal.proofs.read.Goals as goal

pub returns-then-not-is_decimal : goal.returns-then-not-is_decimal
unfolding decimal_of
returns-then-not-is_decimal c = sym (rw (sym c.is_decimal.ensures ∙ c.if-not-is_decimal.true))

pub returns : goal.returns
returns c = c.valued.ensures ∙ read_is _ _ _ _ _ _ _ _ _ c.is_decimal.ensures (ap not c.if-not-is_decimal.false) c.after_point.ensures c.power.ensures c.is_minus.ensures c.digits.ensures c.run-places.ensures.0 c.is_minus-2.ensures c.exponent.ensures
