-- `source::is_empty` meets its contract. Assumes nothing.
use Rattle.source.proofs.Registry.{empty-by-count}
use Rattle.source.proofs.is_empty.Goals as goal

pub returns : goal.returns
returns c = empty-by-count c.args.sources.count
