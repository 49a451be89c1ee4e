-- `matrix_editing::depth_at` meets its contract.
use lib.Ieee.{of_bits}
use Rattle.matrix_editing.specs.Drag.{within, depth_at}
use Rattle.matrix_editing.proofs.depth_at.Goals as goal

pub returns : goal.returns
unfolding depth_at within of_bits
returns c = cc (c.clamp-inside.ensures, c.room_at-room.ensures, c.clamp.ensures)
