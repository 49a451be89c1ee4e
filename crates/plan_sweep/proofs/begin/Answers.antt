-- `plan_sweep::begin` meets its contract.
use lib.ListN.{get_or-replicate}
use lib.Ieee.{nan}
use Rattle.plan_sweep.proofs.begin.Goals as goal

pub returns-then-over : goal.returns-then-over
returns-then-over c = λ l h. rw c.if-over.true (c.sixteen.ensures l h)

pub returns : goal.returns
returns c = let a = c.args in λ l h. rw c.if-over.false (get_or-replicate 16 l a.x nan h)
