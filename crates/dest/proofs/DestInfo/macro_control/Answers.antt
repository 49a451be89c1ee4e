-- `dest::DestInfo::macro_control` meets its contract.
use Rattle.dest.proofs.DestInfo.macro_control.Goals as goal

pub returns : goal.returns
returns c = rw c.param.ensures at c.feeds.ensures
