-- `plan_sum::with_plain` meets its contract.
use mathlib.Core.Path.{refl}
use Rattle.plan_sum.proofs.with_plain.Goals as goal

pub returns : goal.returns
returns c = (refl, refl, rw c.slot_gain.ensures)
