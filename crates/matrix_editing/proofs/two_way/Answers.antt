-- `matrix_editing::two_way` meets its contract.
use Rattle.matrix_editing.specs.Drag.{two_way}
use Rattle.matrix_editing.proofs.two_way.Goals as goal

pub returns-then-both : goal.returns-then-both
unfolding two_way
returns-then-both c = simp c.if-both.true

pub returns : goal.returns
unfolding two_way
returns c = simp c.if-both.false
