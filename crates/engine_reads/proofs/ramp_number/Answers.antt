-- `engine_reads::ramp_number` meets its contract.
use Rattle.engine_reads.specs.Ramp.{ramp_number}
use Rattle.engine_reads.proofs.ramp_number.Goals as goal

pub returns : goal.returns
unfolding ramp_number
returns c = rw (c.ramp_at.ensures, c.number_of-from.ensures, c.number_of-to.ensures)
