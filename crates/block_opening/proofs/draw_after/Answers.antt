-- `block_opening::draw_after` meets its contract.
use Rattle.block_opening.proofs.draw_after.Goals as goal

pub returns-then-on : goal.returns-then-on
returns-then-on c = simp c.if-on.true c.step.ensures
