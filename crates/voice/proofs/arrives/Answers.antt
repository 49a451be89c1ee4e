-- `voice::arrives` meets its contract.
use Rattle.voice.specs.Notes.{arrives}
use Rattle.voice.proofs.arrives.Goals as goal

pub returns : goal.returns
unfolding arrives
returns c = rw c.abs.ensures
