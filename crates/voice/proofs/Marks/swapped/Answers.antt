-- `Marks::swapped` meets its contract.
use Rattle.voice.specs.Marks.{marks_swapped}
use Rattle.voice.proofs.Marks.swapped.Goals as goal

pub returns : goal.returns
unfolding marks_swapped
returns c = cc (c.either-2.ensures, c.either.ensures, c.any-some.ensures)
