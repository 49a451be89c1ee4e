-- `matrix_editing::one_way_room` meets its contract.
use lib.Ieee.{of_bits}
use Rattle.matrix_editing.specs.Drag.{one_way_room}
use Rattle.matrix_editing.proofs.one_way_room.Goals as goal

pub returns-then-amount : goal.returns-then-amount
unfolding one_way_room of_bits
returns-then-amount c = simp c.if-amount.true

pub returns : goal.returns
unfolding one_way_room of_bits
returns c = simp c.if-amount.false
