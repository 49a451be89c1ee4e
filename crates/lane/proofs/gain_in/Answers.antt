-- `lane::gain_in` meets its contract.
use Rattle.lane.proofs.gain_in.Goals as goal

pub returns-in-Live : goal.returns-in-Live
returns-in-Live c = λ t f e rows. rw c.in-Live.is

pub returns-in-Fed : goal.returns-in-Fed
returns-in-Fed c = λ t f e rows. rw c.in-Fed.is (c.fed_in.ensures t f e rows)
