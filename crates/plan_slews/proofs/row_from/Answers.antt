-- `plan_slews::row_from` meets its contract.
use Rattle.plan_slews.proofs.Lanes.{row_put}
use borrow.Author.Rules.{rules}
use Rattle.plan_slews.proofs.row_from.Goals as goal

pub returns : goal.returns
returns c = row_put _ _ _ _ c.put_part.ensures (search rules)
