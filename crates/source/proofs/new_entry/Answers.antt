-- `source::new_entry` meets its contract. Assumes nothing.
use Rattle.source.specs.Registry.{new_entry}
use Rattle.source.proofs.new_entry.Goals as goal

pub returns : goal.returns
unfolding new_entry
returns c = rw c.key_array.ensures
