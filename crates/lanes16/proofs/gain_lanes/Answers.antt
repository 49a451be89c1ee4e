-- `lanes16::gain_lanes` meets its contract.
use lib.ListN.{get_or-replicate}
use lib.Ieee.{nan}
use Rattle.lanes16.proofs.gain_lanes.Goals as goal

pub returns-in-Live : goal.returns-in-Live
returns-in-Live c = λ t f w k l h. rw c.in-Live.is (get_or-replicate 16 l _ nan h)

pub returns-in-Fed : goal.returns-in-Fed
returns-in-Fed c = λ t f w k l h. rw c.in-Fed.is (c.fed_lanes.ensures t f w k l h)
