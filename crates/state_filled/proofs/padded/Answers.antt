-- `state_filled::padded` meets its contract: blanks are left behind the things. Assumes nothing.
use mathlib.Core.Path.{refl}
use Rattle.std.proofs.lemmas.List.{drop-replicate}
use Rattle.list.specs.Padded.{padded}
use Rattle.state_filled.proofs.padded.Goals as goal

pub returns : goal.returns
unfolding padded
returns g c = rw (c.copy_from_slice.ensures.after, c.deref.ensures.0, drop-replicate, c.len.ensures.value) refl
