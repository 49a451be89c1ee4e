-- `source::with_usual` meets its contract. Assumes nothing.
use Rattle.source.proofs.with_usual.Goals as goal

pub returns : goal.returns
returns c = rw (c.with_source.ensures, c.new-info.ensures)
