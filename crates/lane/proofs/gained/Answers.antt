-- `lane::gained` meets its contract.
use Rattle.lane.proofs.gained.Goals as goal

pub returns : goal.returns
returns c = λ t f e rows a o. rw (a, o, ← c.gain_in.ensures t f e rows, ← c.gain_in-2.ensures t f e rows)
