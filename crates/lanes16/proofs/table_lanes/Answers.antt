use native.Mathlib.Omega.{arith}
use Rattle.plan_sum.proofs.Lanes.{laned-none, laned-more}
use borrow.Author.Rules.{rules}
use Rattle.lanes16.proofs.table_lanes.Goals as goal

pub loop-l-init : goal.loop-l-init
loop-l-init c = (search rules, search rules, laned-none _ _)

pub loop-l-preserved : goal.loop-l-preserved
loop-l-preserved c = let i = c.loop-l in (omega arith, i.invariant.1, laned-more i.invariant.2 (omega arith) c.look_up.ensures)

pub returns : goal.returns
returns c = λ l h. c.loop-l.invariant.2.done l (omega arith)
