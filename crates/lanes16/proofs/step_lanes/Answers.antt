use native.Mathlib.Omega.{arith}
use Rattle.plan_sum.proofs.Lanes.{laned-none, laned-more}
use borrow.Author.Rules.{rules}
use Rattle.lanes16.proofs.step_lanes.Goals as goal

pub loop-l-init : goal.loop-l-init
loop-l-init c = (search rules, search rules, search rules, search rules, laned-none _ _)

pub loop-l-preserved : goal.loop-l-preserved
loop-l-preserved c = let i = c.loop-l in (omega arith, i.invariant.1, i.invariant.2, i.invariant.3, laned-more i.invariant.4 (omega arith) c.step.ensures)

pub returns : goal.returns
returns c = λ l h. c.loop-l.invariant.4.done l (omega arith)
