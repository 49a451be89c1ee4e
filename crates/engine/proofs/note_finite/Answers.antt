-- `engine::note_finite` meets its contract.
use mathlib.Core.Path.{sym, ◌∙◌}
use Rattle.engine.proofs.note_finite.Goals as goal

pub returns-then-not-is_finite : goal.returns-then-not-is_finite
returns-then-not-is_finite c = simp (sym c.is_finite.ensures ∙ c.if-not-is_finite.true)

pub returns-then-not-is_finite-2 : goal.returns-then-not-is_finite-2
returns-then-not-is_finite-2 c = simp (sym c.is_finite.ensures ∙ c.if-not-is_finite.false, sym c.is_finite-2.ensures ∙ c.if-not-is_finite-2.true)

pub returns : goal.returns
returns c = simp (sym c.is_finite.ensures ∙ c.if-not-is_finite.false, sym c.is_finite-2.ensures ∙ c.if-not-is_finite-2.false) c.is_finite-3.ensures
