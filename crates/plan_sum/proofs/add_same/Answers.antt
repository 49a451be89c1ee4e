-- `plan_sum::add_same` meets its contract.
use Rattle.plan_sum.proofs.add_same.Goals as goal

pub returns-then-on : goal.returns-then-on
returns-then-on c = rw c.if-on.true

pub returns : goal.returns
returns c = rw c.if-on.false
