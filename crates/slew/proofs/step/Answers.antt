-- `slew::step` meets its contract.
use Rattle.slew.specs.Slew.{moved, slew_step}
use Rattle.slew.proofs.step.Goals as goal

pub returns : goal.returns
unfolding slew_step moved
returns c = rw (c.min.ensures, c.max.ensures)
