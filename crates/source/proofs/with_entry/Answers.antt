-- `source::with_entry` meets its contract. Assumes nothing.
use Rattle.source.specs.Registry.{with_entry}
use Rattle.source.proofs.with_entry.Goals as goal

pub returns : goal.returns
unfolding with_entry
returns c = rw c.len-n.ensures
