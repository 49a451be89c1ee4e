-- `engine_settings::new_code` meets its contract.
use mathlib.Core.Path.{sym, ◌∙◌}
use lib.Ieee.{of_bits}
use borrow.Author.Tests.{lt-ltb, le-ltb}
use Rattle.refusal.specs.Judge.{judged}
use Rattle.engine_settings.specs.Codes.{new_code}
use Rattle.engine_settings.proofs.new_code.Goals as goal

pub returns-then-not-is_finite : goal.returns-then-not-is_finite
unfolding new_code
returns-then-not-is_finite c = simp (sym c.is_finite.ensures ∙ c.if-not-is_finite.true)

pub returns-then-rate : goal.returns-then-rate
unfolding new_code of_bits
returns-then-rate c = simp (sym c.is_finite.ensures ∙ c.if-not-is_finite.false, c.if-rate.true)

pub returns-then-config-gt-FRAMES : goal.returns-then-config-gt-FRAMES
unfolding new_code of_bits
returns-then-config-gt-FRAMES c =
    simp (sym c.is_finite.ensures ∙ c.if-not-is_finite.false, c.if-rate.false, lt-ltb _ _ c.if-config-gt-FRAMES.true)

pub returns-then-config-gt-VOICES : goal.returns-then-config-gt-VOICES
unfolding new_code of_bits
returns-then-config-gt-VOICES c =
    simp (
      sym c.is_finite.ensures ∙ c.if-not-is_finite.false,
      c.if-rate.false,
      le-ltb _ _ c.if-config-gt-FRAMES.false,
      lt-ltb _ _ c.if-config-gt-VOICES.true,
    )

pub returns : goal.returns
unfolding new_code of_bits judged
returns c =
    c.when.ensures
    ∙ simp (
      sym c.is_finite.ensures ∙ c.if-not-is_finite.false,
      c.if-rate.false,
      le-ltb _ _ c.if-config-gt-FRAMES.false,
      le-ltb _ _ c.if-config-gt-VOICES.false,
      c.new_short-short.ensures,
    )
