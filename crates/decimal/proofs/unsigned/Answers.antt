-- `decimal::unsigned` meets its contract. Assumes nothing.
use mathlib.Core.Path.{sym, ap, ◌∙◌}
use Rattle.decimal.specs.Decimal.{unsigned, is_sign}
use Rattle.decimal.proofs.unsigned.Goals as goal

pub returns-then-is_sign : goal.returns-then-is_sign
unfolding unsigned
returns-then-is_sign c = c.tail.ensures ∙ sym (rw (sym (ap is_sign c.lead.ensures) ∙ sym c.is_sign.ensures ∙ c.if-is_sign.true))

pub returns-else-is_sign : goal.returns-else-is_sign
unfolding unsigned
returns-else-is_sign c = sym (rw (sym (ap is_sign c.lead.ensures) ∙ sym c.is_sign.ensures ∙ c.if-is_sign.false))
