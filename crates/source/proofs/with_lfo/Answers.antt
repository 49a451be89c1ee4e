-- `source::with_lfo` meets its contract. Assumes nothing.
use Rattle.source.specs.Standard.{lfo_pair}
use Rattle.source.proofs.with_lfo.Goals as goal

pub returns : goal.returns
unfolding lfo_pair
returns c = rw (c.with_number.ensures, c.with_number-x.ensures, c.new-info.ensures)
