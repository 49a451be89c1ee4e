-- `plan_sweep::group` meets its contract.
use Rattle.plan_sweep.proofs.Laws.{group-done}
use Rattle.plan_sweep.proofs.group.Goals as goal

pub returns : goal.returns
returns c = let a = c.args in
    group-done a.over a.starts.now a.steps.now a.gains.now a.samples.now a.pass a.frame a.start _ _ a.lane c.begin-old.result c.added-acc.result c.bounds-row.result c.begin-old.ensures c.added-acc.ensures c.bounds-row.ensures c.put.ensures
