-- `trace_input_session::word_at` meets its contract. Assumes nothing.
use mathlib.Core.Path.{◌∙◌}
use Rattle.trace_input_session.proofs.Walks.{word-part}
use Rattle.trace_input_session.proofs.word_at.Goals as goal

pub returns : goal.returns
returns c = c.part.ensures ∙ word-part _ _ _ c.stop.ensures
