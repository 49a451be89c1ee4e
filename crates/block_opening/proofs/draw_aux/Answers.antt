-- `block_opening::draw_aux` meets its contract.
use Rattle.block_opening.specs.Draws.{drawn_aux}
use Rattle.block_opening.proofs.draw_aux.Goals as goal

pub returns-in-None : goal.returns-in-None
unfolding drawn_aux
returns-in-None c = rw c.in-None.is

pub returns-in-Some : goal.returns-in-Some
unfolding drawn_aux
returns-in-Some c = rw c.in-Some.is c.draw_read.ensures
