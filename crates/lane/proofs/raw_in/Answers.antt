-- `lane::raw_in` meets its contract.
use Rattle.lane.proofs.raw_in.Goals as goal

pub returns : goal.returns
returns c = λ t f s j reads own e. rw (c.own_at-random.ensures t s j reads.stride own) at (c.read_in.ensures t f reads e)
