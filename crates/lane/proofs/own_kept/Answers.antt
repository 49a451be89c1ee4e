-- `lane::own_kept` meets its contract.
use Rattle.lane.proofs.own_kept.Goals as goal

pub returns : goal.returns
returns c = λ s j own. rw (own c.args.q c.args.lane, ← c.own_row-start.ensures) c.lane_from.ensures
