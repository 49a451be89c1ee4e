-- `engine_settings::base_code` meets its contract.
use Rattle.engine_settings.proofs.Tests.{below, not-below, reached, not-reached}
use mathlib.Core.Path.{sym, ◌∙◌}
use borrow.Author.Tests.{not-true, not-false}
use Rattle.engine_settings.specs.Codes.{base_code}
use borrow.Author.Rules.{rules}
use Rattle.engine_settings.proofs.base_code.Goals as goal

pub returns-then-n-dest : goal.returns-then-n-dest
unfolding base_code
returns-then-n-dest c = simp (reached _ _ _ c.dests_of-n.ensures c.if-n-dest.true)

pub returns-then-not-is_finite : goal.returns-then-not-is_finite
unfolding base_code
returns-then-not-is_finite c = simp (not-reached _ _ _ c.dests_of-n.ensures c.if-n-dest.false, sym c.is_finite.ensures ∙ c.if-not-is_finite.true)

pub returns-then-bases-n : goal.returns-then-bases-n
unfolding base_code
returns-then-bases-n c = simp (not-reached _ _ _ c.dests_of-n.ensures c.if-n-dest.false, sym c.is_finite.ensures ∙ c.if-not-is_finite.false, below _ _ _ c.dests_of-n.ensures c.if-bases-n.true)

pub returns : goal.returns
unfolding base_code
returns c = simp (not-reached _ _ _ c.dests_of-n.ensures c.if-n-dest.false, sym c.is_finite.ensures ∙ c.if-not-is_finite.false, not-below _ _ _ c.dests_of-n.ensures c.if-bases-n.false)
