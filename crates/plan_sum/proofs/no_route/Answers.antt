-- `plan_sum::no_route` meets its contract.
use lib.Ieee.{of_bits}
use mathlib.Core.Path.{refl}
use Rattle.plan_sum.proofs.no_route.Goals as goal

pub returns : goal.returns
unfolding of_bits
returns c = refl
