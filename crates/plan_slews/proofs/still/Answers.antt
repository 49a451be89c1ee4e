-- `plan_slews::still` meets its contract.
use mathlib.Core.Path.{sym, ◌∙◌}
use Rattle.plan_slews.proofs.still.Goals as goal

pub returns-then-not-input_free : goal.returns-then-not-input_free
returns-then-not-input_free c = rw (sym c.input_free.ensures ∙ c.if-not-input_free.true)

pub returns : goal.returns
returns c = c.aux_free.ensures ∙ rw (sym c.input_free.ensures ∙ c.if-not-input_free.false)
