-- `plan_turning::next_rows` meets its contract.
use mathlib.Core.Path.{ap, ◌∙◌}
use mathlib.Core.List.{List}
use Prim.Native.Nat.{◌+◌}
use lib.Ieee.{Float}
use Rattle.model.specs.Tick.{fill_from}
use Rattle.plan_turning.specs.Turns.{sum_at}
use Rattle.plan_turning.proofs.next_rows.Goals as goal

pub returns : goal.returns
returns c =
    let a = c.args in
    let w = a.sweep in
    c.put_sums.ensures
    ∙ ap (λ (y : List Float). fill_from y (a.from + w.pass.width) (sum_at a.starts.now a.steps.now a.gains.now a.samples.now w.pass w.base w.frame) w.pass.width) c.lower.ensures
