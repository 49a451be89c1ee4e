-- `lane::own_at` meets its contract.
use Rattle.lane.proofs.own_at.Goals as goal

pub returns : goal.returns
returns c = λ t s j e own. rw (e, own c.args.q c.args.lane, ← c.own_row-start.ensures) c.fed_at.ensures
