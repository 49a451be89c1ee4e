-- `matrix::matrix_allowed` meets its contract.
use mathlib.Core.Path.{sym, ◌∙◌}
use Rattle.matrix.specs.Edits.{matrix_allowed}
use Rattle.matrix.proofs.matrix_allowed.Goals as goal

pub returns-then-all_finite : goal.returns-then-all_finite
unfolding matrix_allowed
returns-then-all_finite c = c.named_allowed.ensures ∙ simp (sym c.all_finite.ensures ∙ c.if-all_finite.true)

pub returns-else-all_finite : goal.returns-else-all_finite
unfolding matrix_allowed
returns-else-all_finite c = c.if-all_finite.false ∙ simp (sym c.all_finite.ensures ∙ c.if-all_finite.false)
