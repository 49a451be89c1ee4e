-- `decimal::digits` meets its contract. Assumes nothing.
use Rattle.decimal.proofs.Rows.{digits-is}
use Rattle.decimal.proofs.digits.Goals as goal

pub returns : goal.returns
returns c = digits-is _ _ _ _ _ c.unsigned.ensures c.after_point.ensures c.number-upper.ensures c.number.ensures
