-- `block_opening::draw_read` meets its contract.
use Rattle.block_opening.specs.Draws.{drawn_read}
use Rattle.block_opening.proofs.draw_read.Goals as goal

pub returns-in-Signal : goal.returns-in-Signal
unfolding drawn_read
returns-in-Signal c = rw c.in-Signal.is

pub returns-in-Held : goal.returns-in-Held
unfolding drawn_read
returns-in-Held c = rw c.in-Held.is

pub returns-in-Fed : goal.returns-in-Fed
unfolding drawn_read
returns-in-Fed c = rw c.in-Fed.is

pub returns-in-Constant : goal.returns-in-Constant
unfolding drawn_read
returns-in-Constant c = rw c.in-Constant.is

pub returns-in-RouteRandom : goal.returns-in-RouteRandom
unfolding drawn_read
returns-in-RouteRandom c = rw c.in-RouteRandom.is c.draw_voices.ensures
