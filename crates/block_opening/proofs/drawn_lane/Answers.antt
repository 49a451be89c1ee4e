-- `block_opening::drawn_lane` meets its contract.
use Rattle.block_opening.proofs.drawn_lane.Goals as goal

pub returns-then-on : goal.returns-then-on
returns-then-on c = simp c.if-on.true c.draw.ensures
