-- `plan_sum::view_for` meets its contract.
use Rattle.plan_sum.proofs.view_for.Goals as goal

pub returns : goal.returns
returns c = (rw (c.own_for.ensures.0, c.gain_at.ensures, c.gain_at-2.ensures), record { sized = c.requires.sized; start = c.own_for.ensures.1 })
