-- `plan_slews::from_row` meets its contract.
use mathlib.Core.Path.{refl}
use Rattle.model.specs.Tick.{lanes_from}
use Rattle.plan_slews.proofs.Ticks.{from-kept, from-unprimed, from_old, no_start}
use Rattle.plan_slews.proofs.from_row.Goals as goal

pub returns-then-kept : goal.returns-then-kept
returns-then-kept c = λ t x f s k e l h. let a = c.args in from-kept t a.tick.phase x f s (lanes_from a.values.now a.start) (lanes_from a.values.now a.from) l (c.kept.ensures t x l k.primed (no_start t x l k.snap c.if-tick.false)) c.if-kept.true (c.row_from.ensures l h)

pub returns-then-not-tick : goal.returns-then-not-tick
returns-then-not-tick c = λ t x f s k e l h. let a = c.args in let z = no_start t x l k.snap c.if-tick.false in from-unprimed t a.tick.phase x f s (lanes_from a.values.now a.start) (lanes_from a.values.now a.from) l (c.kept.ensures t x l k.primed z) c.if-kept.false z refl k.primed c.if-not-tick.true (e l h)

pub returns : goal.returns
returns c = λ t x f s k e l h. let a = c.args in let z = no_start t x l k.snap c.if-tick.false in from_old t a.tick.phase x f s (lanes_from a.values.now a.start) (lanes_from a.values.now a.from) l (c.kept.ensures t x l k.primed z) c.if-kept.false z refl k.primed c.if-not-tick.false (c.row_from-2.ensures l h)
