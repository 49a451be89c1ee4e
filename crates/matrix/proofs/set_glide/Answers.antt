-- `matrix::set_glide` meets its contract.
use borrow.Author.Rules.{rules}
use Rattle.slots.specs.Matrix.{with_glide}
use Rattle.matrix.specs.Edits.{set_glide}
use Rattle.matrix.proofs.set_glide.Goals as goal

pub returns : goal.returns
unfolding set_glide with_glide
returns c = search rules
