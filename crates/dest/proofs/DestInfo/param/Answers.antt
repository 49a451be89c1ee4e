-- `dest::DestInfo::param` meets its contract.
use mathlib.Core.Path.{refl}
use lib.Ieee.{of_bits, neg}
use Rattle.dest.proofs.DestInfo.param.Goals as goal

pub returns : goal.returns
unfolding of_bits neg
returns c = refl
