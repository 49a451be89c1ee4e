-- `decimal::is_power` meets its contract. Assumes nothing.
use mathlib.Core.Bool.{not}
use mathlib.Core.Path.{ap, ◌∙◌}
use Rattle.decimal.proofs.Rows.{power-not, power-is}
use Rattle.decimal.proofs.is_power.Goals as goal

pub returns-then-is_letter : goal.returns-then-is_letter
returns-then-is_letter c = power-is _ _ _ _ _ _ _ c.mark.ensures c.lead.ensures c.is_letter.ensures (ap not c.if-is_letter.true) c.power.ensures c.unsigned.ensures c.all_digits.ensures

pub returns-else-is_letter : goal.returns-else-is_letter
returns-else-is_letter c = c.if-is_letter.false ∙ power-not _ _ _ _ c.mark.ensures c.lead.ensures c.is_letter.ensures (ap not c.if-is_letter.false)
