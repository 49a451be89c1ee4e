-- `feed::plan_order` meets its contract. Assumes nothing.
use Rattle.feed.specs.Marks.{plan_order}
use Rattle.feed.proofs.plan_order.Goals as goal

pub returns : goal.returns
unfolding plan_order
returns c = cc (c.places.ensures, c.min-count.ensures)
