-- `decimal::power` meets its contract. Assumes nothing.
use mathlib.Core.Path.{ap, ◌∙◌}
use lib.ListN.{drop}
use Rattle.decimal.specs.Decimal.{power}
use Rattle.decimal.proofs.power.Goals as goal

pub returns : goal.returns
unfolding power
returns c = c.tail.ensures ∙ ap (drop 1) c.mark.ensures
