use mathlib.Core.Path.{refl}
use native.Mathlib.Omega.{arith}
use Rattle.plan_sweep.proofs.Laws.{groups_none, groups-more, groups-end}
use borrow.Author.Rules.{rules}
use Rattle.plan_sweep.proofs.some_row.Goals as goal

pub loop-g-init : goal.loop-g-init
loop-g-init c = let a = c.args in
    (search rules, search rules, groups_none a.over a.starts.now a.steps.now a.gains.now a.samples.now a.pass a.frame a.start _)

pub overflow_mul-lane : goal.overflow_mul-lane
overflow_mul-lane c = let w = c.requires.0 in omega (arith, w.span, w.width)

pub overflow_add-lane : goal.overflow_add-lane
overflow_add-lane c = let w = c.requires.0 in omega (arith, w.span, w.width)

pub group-requires : goal.group-requires
group-requires c = (c.requires.0, omega (arith, c.requires.0.span), omega (arith, c.loop-g.invariant.1, c.requires.1))

pub loop-g-preserved : goal.loop-g-preserved
loop-g-preserved c = let a = c.args in
    let i = c.loop-g in
    (omega arith, search rules, groups-more a.over a.starts.now a.steps.now a.gains.now a.samples.now a.pass a.frame a.start _ _ _ i.g _ i.invariant.2 refl c.group.ensures)

pub returns : goal.returns
returns c = let a = c.args in
    let i = c.loop-g in
    groups-end a.over a.starts.now a.steps.now a.gains.now a.samples.now a.pass a.frame a.start _ _ i.g i.invariant.2 (omega arith)
