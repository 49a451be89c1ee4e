-- `plan_turning::put_rows` meets its contract.
use mathlib.Core.Path.{ap}
use mathlib.Core.Bool.{not}
use mathlib.Core.Path.{refl}
use native.Mathlib.Omega.{arith}
use Rattle.lane_input.proofs.Tests.{was-true}
use Rattle.plan_turning.specs.Turns.{sum_at}
use Rattle.plan_turning.proofs.Rows.{rows_next, rows-kept}
use Rattle.plan_turning.proofs.put_rows.Goals as goal

pub returns-then-tick-gt0 : goal.returns-then-tick-gt0
returns-then-tick-gt0 c =
    let a = c.args in
    let z = c.steady.ensures (was-true refl (ap not c.if-not-steady.false)) in
    λ t x f s k all. rows-kept t x f s a.tick k a.values.now a.from a.sweep.pass.width z.0 z.1 c.if-tick-gt0.true

pub returns : goal.returns
returns c =
    let a = c.args in
    let w = a.sweep in
    let z = c.steady.ensures (was-true refl (ap not c.if-not-steady.false)) in
    λ t x f s k all.
    rows_next t x f s a.tick k a.values.now a.from w.pass.width z.0 z.1
    (sum_at a.starts.now a.steps.now a.gains.now a.samples.now w.pass w.base w.frame) _ (omega (arith, c.if-tick-gt0.false)) all c.next_rows.ensures
