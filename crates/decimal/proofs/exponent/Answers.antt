-- `decimal::exponent` meets its contract. Assumes nothing.
use Rattle.decimal.proofs.Rows.{exponent-is}
use Rattle.decimal.proofs.exponent.Goals as goal

pub returns : goal.returns
returns c = exponent-is _ _ _ _ c.power.ensures c.unsigned.ensures c.number.ensures
