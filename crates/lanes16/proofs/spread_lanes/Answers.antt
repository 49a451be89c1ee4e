-- `lanes16::spread_lanes` meets its contract.
use Rattle.lanes16.proofs.spread_lanes.Goals as goal

pub returns-then-not-bipolar : goal.returns-then-not-bipolar
returns-then-not-bipolar c = λ l h. rw (c.if-not-bipolar.true)

pub returns : goal.returns
returns c = λ l h. rw (c.if-not-bipolar.false) (c.doubled_lanes.ensures l h)
