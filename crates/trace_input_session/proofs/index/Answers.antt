use mathlib.Core.Path.{sym, ◌∙◌}
use native.Mathlib.Omega.{arith}
use Rattle.trace_input_session.proofs.Walks.{index-starts, index-found, index-step, index-ends}
use Rattle.trace_input_session.proofs.index.Goals as goal

pub loop-p-init : goal.loop-p-init
loop-p-init c =
    (c.skip-p.ensures.within, omega arith, c.skip-p.ensures.begun, index-starts _ _ _ c.skip-p.ensures)

pub returns-then-is : goal.returns-then-is
returns-then-is c =
    index-found _ _ _ _ _ _ c.loop-p-test.true c.loop-p.invariant.2 c.word_at.ensures (sym c.is.ensures ∙ c.if-is.true) c.loop-p.invariant.3

pub loop-p-smaller : goal.loop-p-smaller
loop-p-smaller c =
    let on = c.next-p.ensures.onward c.loop-p-test.true in
    let in-line = c.next-p.ensures.within in
    omega arith

pub loop-p-preserved : goal.loop-p-preserved
loop-p-preserved c =
    let h = c.loop-p-test.true in
    let on = c.next-p.ensures.onward h in
    (c.next-p.ensures.within, omega arith, c.next-p.ensures.begun, index-step _ _ _ _ _ _ _ h c.loop-p.invariant.2 c.word_at.ensures (sym c.is.ensures ∙ c.if-is.false) c.next-p.ensures c.loop-p.invariant.3)

pub returns : goal.returns
returns c =
    index-ends _ _ c.loop-p.p _ _ (omega arith) c.loop-p.invariant.3
