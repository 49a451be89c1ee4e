-- `source::with_source` meets its contract. Assumes nothing.
use Rattle.source.specs.Standard.{with_source}
use Rattle.source.proofs.with_source.Goals as goal

pub returns : goal.returns
unfolding with_source
returns c = rw (c.push.ensures, c.new_entry.ensures)
