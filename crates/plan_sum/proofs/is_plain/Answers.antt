-- `plan_sum::is_plain` meets its contract.
use Rattle.plan_sum.proofs.Found.{plain_by}
use Rattle.plan_sum.proofs.is_plain.Goals as goal

pub returns : goal.returns
returns c = λ t w e sc q. plain_by w c.args.route e sc q (c.plain.ensures t)
