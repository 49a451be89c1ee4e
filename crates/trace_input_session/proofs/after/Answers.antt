-- `trace_input_session::after` meets its contract. Assumes nothing.
use mathlib.Core.Path.{◌∙◌}
use Rattle.trace_input_session.proofs.Walks.{after_none, after-part}
use Rattle.trace_input_session.proofs.after.Goals as goal

pub returns-then-s-i : goal.returns-then-s-i
returns-then-s-i c = after_none _ _ _ c.find-i.ensures c.if-s-i.true

pub returns : goal.returns
returns c = c.part.ensures ∙ after-part _ _ _ c.find-i.ensures
