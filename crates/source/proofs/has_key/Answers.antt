-- `source::has_key` meets its contract. Assumes nothing.
use mathlib.Core.Path.{ap, ◌∙◌}
use Rattle.std.specs.Prelude.{is_some}
use Rattle.source.specs.Standard.{has}
use Rattle.source.proofs.has_key.Goals as goal

pub returns : goal.returns
unfolding has
returns c = c.is_some.ensures ∙ ap is_some c.find_key.ensures
