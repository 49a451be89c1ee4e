-- `lanes16::read_lane` meets its contract.
use mathlib.Core.Path.{ap, ◌∙◌}
use lib.Ieee.{Float}
use Rattle.model.specs.Input.{read_in}
use Rattle.lanes16.proofs.read_lane.Goals as goal

pub returns : goal.returns
returns c = λ t f s j e. let a = c.args in c.read_in.ensures t f e.reads e.part ∙ ap (λ (z : Float). read_in t f z a.lane a.read) (c.own_at-random.ensures t s j e.reads.stride e.own)
