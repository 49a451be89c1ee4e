-- `plan_sweep::four_group` meets its contract.
use Rattle.plan_sweep.proofs.Fours.{four-group-done}
use Rattle.plan_sweep.proofs.four_group.Goals as goal

pub returns : goal.returns
returns c =
    let a = c.args in
    four-group-done a.over a.x a.xs.now a.p a.g a.start _ _ c.begin-old.result c.four-acc.result c.begin-old.ensures c.four-acc.ensures c.put.ensures
