-- `plan_sum::slot_gain` meets its contract.
use Rattle.plan_sum.proofs.slot_gain.Goals as goal

pub returns : goal.returns
returns c = rw (← c.gain_at.ensures, ← c.gain_at-2.ensures)
