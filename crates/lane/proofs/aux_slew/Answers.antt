-- `lane::aux_slew` meets its contract.
use mathlib.Core.Path.{◌∙◌}
use Rattle.lane.proofs.aux_slew.Goals as goal

pub returns-in-None : goal.returns-in-None
returns-in-None c = λ t x f s j v d m e. rw c.in-None.is (c.own_kept.ensures s j v.own)

pub returns-in-Some : goal.returns-in-Some
returns-in-Some c = λ t x f s j v d m e.
    rw c.in-Some.is (c.aux_moved.ensures t x f s j v (d ∙ c.in-Some.is) m e)
