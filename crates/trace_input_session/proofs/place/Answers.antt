use native.Mathlib.Omega.{arith}
use Rattle.trace_input_session.proofs.Walks.{place-step, placed}
use Rattle.trace_input_session.proofs.place.Goals as goal

pub loop-k-init : goal.loop-k-init
loop-k-init c =
    (omega arith, c.skip-at.ensures.within, c.skip-at.ensures.begun, c.skip-at.ensures.rest)

pub loop-k-preserved : goal.loop-k-preserved
loop-k-preserved c =
    (omega arith, c.next-at.ensures.within, c.next-at.ensures.begun, place-step c.args.line.now c.loop-k.at c.next-at.result c.loop-k.k c.loop-k.invariant.1 c.loop-k.invariant.2 c.next-at.ensures c.loop-k.invariant.3)

pub returns : goal.returns
returns c =
    placed c.args.line.now c.loop-k.at c.loop-k.k c.args.n c.loop-k.invariant.1 c.loop-k.invariant.2 c.loop-k.invariant.3 (omega arith)
