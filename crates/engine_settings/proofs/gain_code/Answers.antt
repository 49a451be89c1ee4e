-- `engine_settings::gain_code` meets its contract.
use mathlib.Core.Path.{sym, ◌∙◌}
use borrow.Author.Tests.{le-leb, lt-leb, not-true, not-false}
use Rattle.engine_settings.specs.Codes.{gain_code}
use borrow.Author.Rules.{rules}
use Rattle.engine_settings.proofs.gain_code.Goals as goal

pub returns-then-slot-ge-SLOTS : goal.returns-then-slot-ge-SLOTS
unfolding gain_code
returns-then-slot-ge-SLOTS c = simp (le-leb _ _ c.if-slot-ge-SLOTS.true)

pub returns-then-not-is_finite : goal.returns-then-not-is_finite
unfolding gain_code
returns-then-not-is_finite c = simp (lt-leb _ _ c.if-slot-ge-SLOTS.false, sym c.is_finite.ensures ∙ c.if-not-is_finite.true)

pub returns : goal.returns
unfolding gain_code
returns c = simp (lt-leb _ _ c.if-slot-ge-SLOTS.false, sym c.is_finite.ensures ∙ c.if-not-is_finite.false)
