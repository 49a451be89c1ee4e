-- `dest::is_empty` meets its contract.
use Rattle.dest.specs.Entries.{dests_empty}
use Rattle.dest.proofs.is_empty.Goals as goal

pub returns : goal.returns
unfolding dests_empty
returns c = rw c.len.ensures
