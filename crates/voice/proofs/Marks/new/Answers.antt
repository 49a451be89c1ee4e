-- `Marks::new` meets its contract.
use mathlib.Core.Path.{refl}
use Rattle.voice.specs.Marks.{no_marks}
use Rattle.voice.proofs.Marks.new.Goals as goal

pub returns : goal.returns
unfolding no_marks
returns c = refl
