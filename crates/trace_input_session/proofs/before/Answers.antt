-- `trace_input_session::before` meets its contract. Assumes nothing.
use mathlib.Core.Path.{◌∙◌}
use Rattle.trace_input_session.proofs.Walks.{before-part}
use Rattle.trace_input_session.proofs.before.Goals as goal

pub returns : goal.returns
returns c = c.part.ensures ∙ before-part _ _ _ c.find.ensures
