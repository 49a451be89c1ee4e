-- `lane_input::curved` meets its contract.
use Rattle.lane_input.proofs.curved.Goals as goal

pub returns-then-not-table : goal.returns-then-not-table
returns-then-not-table c = λ t e. rw (c.if-not-table.true)

pub returns : goal.returns
returns c = λ t e. rw (c.if-not-table.false, e) c.look_up.ensures
