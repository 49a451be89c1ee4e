-- `decimal::is_minus` meets its contract. Assumes nothing.
use Rattle.decimal.specs.Decimal.{is_minus}
use Rattle.decimal.proofs.is_minus.Goals as goal

pub returns : goal.returns
unfolding is_minus
returns c = rw c.lead.ensures
