-- `engine_settings::held_code` meets its contract.
use Rattle.engine_settings.proofs.Tests.{below, not-below, reached, not-reached}
use mathlib.Core.Path.{sym, ◌∙◌}
use borrow.Author.Tests.{not-true, not-false}
use Rattle.engine_settings.specs.Codes.{held_code}
use borrow.Author.Rules.{rules}
use Rattle.engine_settings.proofs.held_code.Goals as goal

pub returns-then-n-source : goal.returns-then-n-source
unfolding held_code
returns-then-n-source c = simp (reached _ _ _ c.sources_of-n.ensures c.if-n-source.true)

pub returns-then-not-is_finite : goal.returns-then-not-is_finite
unfolding held_code
returns-then-not-is_finite c = simp (not-reached _ _ _ c.sources_of-n.ensures c.if-n-source.false, sym c.is_finite.ensures ∙ c.if-not-is_finite.true)

pub returns-then-held-held_need : goal.returns-then-held-held_need
unfolding held_code
returns-then-held-held_need c = simp (not-reached _ _ _ c.sources_of-n.ensures c.if-n-source.false, sym c.is_finite.ensures ∙ c.if-not-is_finite.false, below _ _ _ c.held_need.ensures c.if-held-held_need.true)

pub returns-then-globals-n : goal.returns-then-globals-n
unfolding held_code
returns-then-globals-n c = simp (not-reached _ _ _ c.sources_of-n.ensures c.if-n-source.false, sym c.is_finite.ensures ∙ c.if-not-is_finite.false, not-below _ _ _ c.held_need.ensures c.if-held-held_need.false, below _ _ _ c.sources_of-n.ensures c.if-globals-n.true)

pub returns : goal.returns
unfolding held_code
returns c = simp (not-reached _ _ _ c.sources_of-n.ensures c.if-n-source.false, sym c.is_finite.ensures ∙ c.if-not-is_finite.false, not-below _ _ _ c.held_need.ensures c.if-held-held_need.false, not-below _ _ _ c.sources_of-n.ensures c.if-globals-n.false)
