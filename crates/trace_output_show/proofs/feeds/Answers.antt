use Rattle.std.proofs.Common.{arith, rules}
use Rattle.trace_output_show.proofs.Counting.{feeds-none, feeds-more, feeds-all}
use Rattle.trace_output_show.proofs.feeds.Goals as goal

pub loop-b-init : goal.loop-b-init
loop-b-init c = (search rules, feeds-none _)

pub loop-b-preserved : goal.loop-b-preserved
loop-b-preserved c = (search rules, feeds-more c.args.s.now c.loop-b.b-index _ _ c.loop-b.invariant.1 c.one_if-n.ensures.1)

pub returns : goal.returns
returns c = feeds-all c.args.s.now c.loop-b.b-index _ c.loop-b.invariant.1 (omega arith)
