-- `matrix::set_velocity_legato` meets its contract.
use borrow.Author.Rules.{rules}
use Rattle.slots.specs.Matrix.{with_velocity_legato}
use Rattle.matrix.specs.Edits.{set_velocity_legato}
use Rattle.matrix.proofs.set_velocity_legato.Goals as goal

pub returns : goal.returns
unfolding set_velocity_legato with_velocity_legato
returns c = search rules
