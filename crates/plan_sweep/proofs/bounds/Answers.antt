-- `plan_sweep::bounds` meets its contract.
use Rattle.plan_sweep.proofs.bounds.Goals as goal

pub returns-then-pass : goal.returns-then-pass
returns-then-pass c = λ l h. rw c.if-pass.true (c.hold_lanes.ensures l h)

pub returns : goal.returns
returns c = λ l h. rw c.if-pass.false
