-- `trace_input_session::whole_to` meets its contract. Assumes nothing.
use mathlib.Core.Path.{sym, ◌∙◌}
use Rattle.trace_input_session.proofs.Laws.{at_most-yes, at_most-no, at_most-none}
use Rattle.trace_input_session.proofs.whole_to.Goals as goal

pub returns-in-Some : goal.returns-in-Some
returns-in-Some c = at_most-yes c.args.most _ c.args.w.now (sym c.whole.ensures ∙ c.in-Some.is) c.if-n-most.true

pub returns-in_default : goal.returns-in_default
returns-in_default c = at_most-no c.args.most _ c.args.w.now (sym c.whole.ensures ∙ c.in-Some.is) c.if-n-most.false

pub returns-in_default-2 : goal.returns-in_default-2
returns-in_default-2 c = at_most-none c.args.most c.args.w.now (sym c.whole.ensures ∙ c.in_default.is)
