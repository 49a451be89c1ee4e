-- `lane::source_in` meets its contract.
use Rattle.lane.proofs.source_in.Goals as goal

pub returns : goal.returns
returns c = λ t f s j v e. rw e at (c.placed_in.ensures t f s j v.reads v.works v.own v.source)
