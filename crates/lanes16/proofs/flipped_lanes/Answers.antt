-- `lanes16::flipped_lanes` meets its contract.
use Rattle.lanes16.proofs.flipped_lanes.Goals as goal

pub returns-then-not-invert : goal.returns-then-not-invert
returns-then-not-invert c = λ l h. rw (c.if-not-invert.true)

pub returns : goal.returns
returns c = λ l h. rw (c.if-not-invert.false) (c.inverted_lanes.ensures l h)
