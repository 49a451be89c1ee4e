-- `Marks::cleared` meets its contract.
use Rattle.voice.specs.Marks.{marks_cleared}
use Rattle.voice.proofs.Marks.cleared.Goals as goal

pub returns : goal.returns
unfolding marks_cleared
returns c = c.new.ensures
