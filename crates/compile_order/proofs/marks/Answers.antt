use native.Mathlib.Omega.{arith}
use borrow.Author.Rules.{rules}
use Rattle.list.proofs.Filled.{filled_none, filled_more, filled-all}
use Rattle.compile_order.proofs.marks.Goals as goal

pub loop-p-init : goal.loop-p-init
loop-p-init c = (search rules, filled_none _ _)

pub bounds-out-p : goal.bounds-out-p
bounds-out-p c = omega (arith, c.loop-p.invariant.1.as_long)

pub loop-p-preserved : goal.loop-p-preserved
loop-p-preserved c = (search rules, filled_more c.loop-p.invariant.1 c.mark.ensures)

pub returns : goal.returns
returns c = filled-all c.loop-p.invariant.1 (omega arith)
