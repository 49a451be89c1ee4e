-- `number::held` meets its contract.
use Rattle.number.specs.Number.{hold}
use Rattle.number.proofs.held.Goals as goal

pub returns : goal.returns
unfolding hold
returns c = cc (c.min.ensures, c.max.ensures)
