-- `decimal::has_point` meets its contract. Assumes nothing.
use Rattle.decimal.specs.Decimal.{has_point}
use Rattle.decimal.proofs.has_point.Goals as goal

pub returns : goal.returns
unfolding has_point
returns c = rw (c.lead.ensures, c.rest.ensures)
