-- `plan_sweep::pass_of` meets its contract.
use Rattle.plan_sweep.proofs.Kept.{pass-is}
use Rattle.plan_sweep.proofs.pass_of.Goals as goal

pub returns : goal.returns
returns c = let a = c.args in
    pass-is a.field a.plan a.base a.bound a.offsets.now _ c.offset_sum-offset.ensures
