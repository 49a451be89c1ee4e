-- `lanes16::unipolar_lanes` meets its contract.
use Rattle.lanes16.proofs.unipolar_lanes.Goals as goal

pub returns-then-not-bipolar : goal.returns-then-not-bipolar
returns-then-not-bipolar c = λ l h. rw (c.if-not-bipolar.true)

pub returns : goal.returns
returns c = λ l h. rw (c.if-not-bipolar.false) (c.halved_lanes.ensures l h)
