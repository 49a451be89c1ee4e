-- `dest::DestInfo::slot_output` meets its contract.
use Rattle.dest.proofs.DestInfo.slot_output.Goals as goal

pub returns : goal.returns
returns c = rw c.param.ensures at c.feeds.ensures
