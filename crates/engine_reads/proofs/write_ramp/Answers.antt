use native.Mathlib.Omega.{arith}
use borrow.Author.Rules.{rules}
use Rattle.list.proofs.Filled.{filled_none, filled_more, filled-all}
use Rattle.engine_reads.proofs.write_ramp.Goals as goal

pub loop-k-init : goal.loop-k-init
loop-k-init c = (search rules, filled_none _ _)

pub loop-k-preserved : goal.loop-k-preserved
loop-k-preserved c = (omega arith, filled_more c.loop-k.invariant.1 c.ramp_number.ensures)

pub returns : goal.returns
returns c = filled-all c.loop-k.invariant.1 (omega arith)
