-- `lane::aux_after` meets its contract.
use mathlib.Core.Path.{refl}
use Rattle.model.specs.Slews.{aux_after}
use Rattle.lane.proofs.aux_after.Goals as goal

pub returns : goal.returns
unfolding aux_after
returns c = λ t x f s j v q m e. rw q (c.aux_slew.ensures t x f s j v refl m e)
