-- `trace_input_session::is` meets its contract. Assumes nothing.
use mathlib.Core.Path.{◌∙◌}
use Rattle.trace_input_session.proofs.Laws.{same-pointwise}
use Rattle.trace_input_session.proofs.is.Goals as goal

pub returns : goal.returns
returns c = c.eq.ensures ∙ same-pointwise c.args.a.now c.args.b.now
