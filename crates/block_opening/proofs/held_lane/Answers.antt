-- `block_opening::held_lane` meets its contract.
use mathlib.Core.Path.{sym, ◌∙◌}
use Rattle.block_opening.proofs.held_lane.Goals as goal

pub returns-then-passes : goal.returns-then-passes
returns-then-passes c = rw (sym c.passes.ensures ∙ c.if-passes.true)

pub returns : goal.returns
returns c = rw (sym c.passes.ensures ∙ c.if-passes.false)
