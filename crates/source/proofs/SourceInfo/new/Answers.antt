-- `source::SourceInfo::new` meets its contract. Assumes nothing.
use Rattle.source.proofs.SourceInfo.new.Goals as goal

pub returns : goal.returns
returns c = rw (c.usual_scope.ensures, c.usual_range.ensures)
