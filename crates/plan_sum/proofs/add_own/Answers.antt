-- `plan_sum::add_own` meets its contract.
use Rattle.plan_sum.proofs.add_own.Goals as goal

pub returns-then-not-on : goal.returns-then-not-on
returns-then-not-on c = λ t f s j sn fr v. rw (c.if-not-on.true)

pub returns : goal.returns
returns c = λ t f s j sn fr v. rw (c.if-not-on.false, ← c.lane_value.ensures t f s j sn fr v)
