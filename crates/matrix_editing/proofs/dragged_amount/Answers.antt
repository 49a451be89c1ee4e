-- `matrix_editing::dragged_amount` meets its contract.
use Rattle.matrix_editing.specs.Drag.{dragged_amount}
use Rattle.matrix_editing.proofs.dragged_amount.Goals as goal

pub returns-then-limit : goal.returns-then-limit
unfolding dragged_amount
returns-then-limit c = rw c.if-limit.true c.depth_at.ensures

pub returns : goal.returns
unfolding dragged_amount
returns c = simp c.if-limit.false
