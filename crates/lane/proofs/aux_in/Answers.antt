-- `lane::aux_in` meets its contract.
use Rattle.lane.proofs.aux_in.Goals as goal

pub returns : goal.returns
returns c = λ t f s j v d e. rw e at (c.placed_in.ensures t f s j v.reads v.works v.own (rw d at v.aux))
