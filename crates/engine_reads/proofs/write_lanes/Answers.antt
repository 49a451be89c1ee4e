use native.Mathlib.Omega.{arith}
use borrow.Author.Rules.{rules}
use Rattle.list.proofs.Filled.{filled_none, filled_more, filled-all}
use Rattle.engine_reads.proofs.write_lanes.Goals as goal

pub loop-v-init : goal.loop-v-init
loop-v-init c = (search rules, filled_none _ _)

pub loop-v-preserved : goal.loop-v-preserved
loop-v-preserved c = (omega arith, filled_more c.loop-v.invariant.1 c.lane_number.ensures)

pub returns : goal.returns
returns c = filled-all c.loop-v.invariant.1 (omega arith)
