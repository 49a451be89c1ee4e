-- `lane::with_aux` meets its contract.
use Rattle.lane.proofs.with_aux.Goals as goal

pub returns-in-None : goal.returns-in-None
returns-in-None c = λ t f s j v e. rw c.in-None.is

pub returns-in-Some : goal.returns-in-Some
returns-in-Some c = λ t f s j v e.
    rw (c.in-Some.is, ← c.aux_in.ensures t f s j v c.in-Some.is e, ← c.flipped.ensures)
