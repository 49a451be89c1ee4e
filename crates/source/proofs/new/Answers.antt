-- `source::new` meets its contract. Assumes nothing.
use Rattle.source.specs.Registry.{no_sources}
use Rattle.source.proofs.new.Goals as goal

pub returns : goal.returns
unfolding no_sources
returns c = rw c.blank_entry-blank.ensures
