-- `decimal::shrunk` meets its contract. Assumes nothing.
use mathlib.Core.Path.{◌∙◌}
use Rattle.decimal.proofs.Values.{far}
use Rattle.decimal.proofs.shrunk.Goals as goal

pub returns-then-f-gt17 : goal.returns-then-f-gt17
returns-then-f-gt17 c = c.scaled.ensures ∙ far _ _ _ _ c.if-f-gt17.true

pub returns : goal.returns
returns c = c.scaled-2.ensures
