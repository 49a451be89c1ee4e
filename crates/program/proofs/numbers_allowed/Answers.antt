-- `program::numbers_allowed` meets its contract.
use mathlib.Core.Path.{sym, ◌∙◌}
use Rattle.program.proofs.numbers_allowed.Goals as goal

pub returns-then-not-all_finite : goal.returns-then-not-all_finite
returns-then-not-all_finite c = simp (sym c.all_finite.ensures ∙ c.if-not-all_finite.true)

pub returns : goal.returns
returns c = c.named_allowed.ensures ∙ simp (sym c.all_finite.ensures ∙ c.if-not-all_finite.false)
