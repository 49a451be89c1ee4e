-- `plan_slews::to_row` meets its contract.
use Rattle.model.specs.Tick.{lanes_from}
use Rattle.plan_slews.proofs.Ticks.{to-kept, to-new, no_start}
use Rattle.plan_slews.proofs.to_row.Goals as goal

pub returns-then-kept : goal.returns-then-kept
returns-then-kept c = λ t x f s k e l h. let a = c.args in to-kept t a.tick.phase x f s (lanes_from a.values.now a.start) (lanes_from a.values.now a.start) l (c.kept.ensures t x l k.primed (no_start t x l k.snap c.if-tick.false)) c.if-kept.true (c.row_from.ensures l h)

pub returns : goal.returns
returns c = λ t x f s k e l h. let a = c.args in to-new t a.tick.phase x f s (lanes_from a.values.now a.start) (lanes_from a.values.now a.start) l (c.kept.ensures t x l k.primed (no_start t x l k.snap c.if-tick.false)) c.if-kept.false (e l h)
