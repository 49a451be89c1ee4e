-- `decimal::rest` meets its contract. Assumes nothing.
use mathlib.Core.Path.{ap, ◌∙◌}
use Rattle.decimal.specs.Decimal.{past, rest}
use Rattle.decimal.proofs.rest.Goals as goal

pub returns : goal.returns
unfolding rest
returns c = c.past.ensures ∙ ap past c.unsigned.ensures
