-- `lane_input::slewed` meets its contract.
use Rattle.lane_input.proofs.slewed.Goals as goal

pub returns-in-None : goal.returns-in-None
returns-in-None c = λ t e. rw c.in-None.is

pub returns-in-Some : goal.returns-in-Some
returns-in-Some c = λ t e. rw (c.in-Some.is, e, ← c.reach.ensures, ← c.reach-in-Some.ensures) c.step.ensures
