-- `matrix::slots` meets its contract.
use borrow.Author.Rules.{rules}
use Rattle.slots.specs.Matrix.{slots_of}
use Rattle.matrix.proofs.slots.Goals as goal

pub returns : goal.returns
unfolding slots_of
returns c = search rules
