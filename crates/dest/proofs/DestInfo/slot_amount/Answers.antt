-- `dest::DestInfo::slot_amount` meets its contract.
use lib.Ieee.{of_bits, neg}
use Rattle.dest.proofs.DestInfo.slot_amount.Goals as goal

pub returns : goal.returns
unfolding of_bits neg
returns c =
    let b = rw c.param.ensures at c.bounds.ensures in
    rw b at c.feeds.ensures
