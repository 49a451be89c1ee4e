-- `dest::DestInfo::unbounded` meets its contract.
use lib.Ieee.{of_bits, neg, div}
use Rattle.dest.proofs.DestInfo.unbounded.Goals as goal

pub returns : goal.returns
unfolding of_bits neg div
returns c = c.bounds.ensures
