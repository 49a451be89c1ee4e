-- `engine_reads::shape` meets its contract.
use Rattle.engine_reads.proofs.shape.Goals as goal

pub returns-then-spot : goal.returns-then-spot
returns-then-spot c = simp c.if-spot.true

pub returns-then-spot-2 : goal.returns-then-spot-2
returns-then-spot-2 c = rw (c.if-spot.false, c.if-spot-2.true)
