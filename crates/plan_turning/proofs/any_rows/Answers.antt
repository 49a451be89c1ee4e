-- `plan_turning::any_rows` meets its contract.
use Rattle.model.specs.Tick.{held_sum}
use Rattle.plan_slews.specs.Rows.{IsRow}
use Rattle.plan_turning.proofs.Rows.{sums-are, rows-any}
use borrow.Author.Rules.{rules}
use Rattle.plan_turning.proofs.any_rows.Goals as goal

pub returns : goal.returns
returns c =
    let a = c.args in
    let w = a.sweep in
    let sums = c.put_sums in
    λ t x f s k all.
    let held : IsRow w.pass.width (held_sum t f s x) sums.new.rows =
    sums-are a.starts.now a.steps.now a.gains.now a.samples.now w.pass w.base w.frame c.requires.2 t x f s _ _ (search rules) all sums.ensures in
    rows-any t x f s a.tick k a.values.now a.from w.pass.width c.from_row-begins.result c.to_row-ends.result _ _
    (c.from_row-begins.ensures t x f s k held)
    (c.to_row-ends.ensures t x f s k held)
    c.put_row.ensures
    c.put_row-2.ensures
