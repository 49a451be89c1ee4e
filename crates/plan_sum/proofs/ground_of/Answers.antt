-- `plan_sum::ground_of` meets its contract.
use Rattle.plan_sum.proofs.ground_of.Goals as goal

pub returns : goal.returns
returns c = rw (c.any_from.ensures, c.point_of.ensures)
