-- `plan_slews::put_row` meets its contract.
use Rattle.plan_slews.proofs.Lanes.{fill-row}
use Rattle.plan_slews.proofs.put_row.Goals as goal

pub returns : goal.returns
returns c = let a = c.args in
    fill-row a.values.now a.start a.row a.n c.put_part.ensures
