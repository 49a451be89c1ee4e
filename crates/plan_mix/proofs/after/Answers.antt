-- `plan_mix::after` meets its contract.
use Rattle.plan_mix.proofs.after.Goals as goal

pub returns-then-free : goal.returns-then-free
returns-then-free c = λ s j e l h. rw c.if-free.true (c.own_lanes.ensures s j e l h)

pub returns : goal.returns
returns c = λ s j e l h. rw c.if-free.false
