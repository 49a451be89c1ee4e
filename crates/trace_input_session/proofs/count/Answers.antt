use native.Mathlib.Omega.{arith}
use Rattle.trace_input_session.proofs.Walks.{count-starts, count-step, count_past}
use Rattle.trace_input_session.proofs.count.Goals as goal

pub loop-p-init : goal.loop-p-init
loop-p-init c =
    (c.skip-p.ensures.within, omega arith, c.skip-p.ensures.begun, count-starts _ _ c.skip-p.ensures)

pub loop-p-smaller : goal.loop-p-smaller
loop-p-smaller c =
    let on = c.next-p.ensures.onward c.loop-p-test.true in
    let in-line = c.next-p.ensures.within in
    omega arith

pub loop-p-preserved : goal.loop-p-preserved
loop-p-preserved c =
    let on = c.next-p.ensures.onward c.loop-p-test.true in
    (c.next-p.ensures.within, omega arith, c.next-p.ensures.begun, count-step _ _ _ _ _ c.loop-p-test.true c.loop-p.invariant.2 c.next-p.ensures c.loop-p.invariant.3)

pub returns : goal.returns
returns c =
    let past = count_past c.args.line.now c.loop-p.p (omega arith) in
    let all = c.loop-p.invariant.3 in
    (omega (arith, past), omega arith)
