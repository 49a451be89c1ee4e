-- `plan_turning::put_sums` meets its contract.
use native.Mathlib.Omega.{arith}
use Rattle.plan_turning.proofs.Rows.{sums-row}
use Rattle.plan_turning.proofs.put_sums.Goals as goal

pub overflow_sub-pass : goal.overflow_sub-pass
overflow_sub-pass c =
    omega (arith, c.requires.0.span)

pub fill-requires-2 : goal.fill-requires-2
fill-requires-2 c =
    omega (arith, c.requires.0.span, c.requires.1, c.rows-2-1.given, c.rows-1.given)

pub returns : goal.returns
returns c =
    let a = c.args in
    let w = a.sweep in
    sums-row a.starts.now a.steps.now a.gains.now a.samples.now w.pass w.base w.frame c.requires.2 a.start a.rows.now _ _ _ c.held-low.result c.requires.0.span
    c.held-low.ensures
    c.fill.ensures
    c.span_row.ensures
    c.fill-2.ensures
