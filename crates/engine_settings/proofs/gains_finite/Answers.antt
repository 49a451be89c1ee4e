-- `engine_settings::gains_finite` meets its contract.
use mathlib.Core.Path.{sym, ◌∙◌}
use borrow.Author.Tests.{not-true, not-false}
use borrow.Author.Rules.{rules}
use Rattle.engine_settings.proofs.gains_finite.Goals as goal

pub returns-then-not-every_finite : goal.returns-then-not-every_finite
returns-then-not-every_finite c = simp (sym c.every_finite.ensures ∙ c.if-not-every_finite.true)

pub returns : goal.returns
returns c = c.every_finite-2.ensures ∙ simp (sym c.every_finite.ensures ∙ c.if-not-every_finite.false)
