-- `block_opening::put_moved` meets its contract.
use mathlib.Core.Path.{sym, ◌∙◌}
use Rattle.block_opening.proofs.put_moved.Goals as goal

pub returns-then-not-is_moving : goal.returns-then-not-is_moving
returns-then-not-is_moving c = simp (sym c.is_moving.ensures ∙ c.if-not-is_moving.true)

pub returns : goal.returns
returns c = simp (sym c.is_moving.ensures ∙ c.if-not-is_moving.false) c.put_held.ensures
