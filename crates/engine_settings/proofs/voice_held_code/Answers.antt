-- `engine_settings::voice_held_code` meets its contract.
use Rattle.engine_settings.proofs.Tests.{below, not-below, reached, not-reached}
use mathlib.Core.Path.{sym, ◌∙◌}
use borrow.Author.Tests.{not-true, not-false}
use Rattle.engine_settings.specs.Codes.{voice_held_code}
use borrow.Author.Rules.{rules}
use Rattle.engine_settings.proofs.voice_held_code.Goals as goal

pub returns-then-stride_of-voice : goal.returns-then-stride_of-voice
unfolding voice_held_code
returns-then-stride_of-voice c = simp (reached _ _ _ c.stride_of.ensures c.if-stride_of-voice.true)

pub returns-then-sources_of-source : goal.returns-then-sources_of-source
unfolding voice_held_code
returns-then-sources_of-source c = simp (not-reached _ _ _ c.stride_of.ensures c.if-stride_of-voice.false, reached _ _ _ c.sources_of.ensures c.if-sources_of-source.true)

pub returns-then-not-is_finite : goal.returns-then-not-is_finite
unfolding voice_held_code
returns-then-not-is_finite c = simp (not-reached _ _ _ c.stride_of.ensures c.if-stride_of-voice.false, not-reached _ _ _ c.sources_of.ensures c.if-sources_of-source.false, sym c.is_finite.ensures ∙ c.if-not-is_finite.true)

pub returns-then-held-held_need : goal.returns-then-held-held_need
unfolding voice_held_code
returns-then-held-held_need c = simp (not-reached _ _ _ c.stride_of.ensures c.if-stride_of-voice.false, not-reached _ _ _ c.sources_of.ensures c.if-sources_of-source.false, sym c.is_finite.ensures ∙ c.if-not-is_finite.false, below _ _ _ c.held_need.ensures c.if-held-held_need.true)

pub returns : goal.returns
unfolding voice_held_code
returns c = simp (not-reached _ _ _ c.stride_of.ensures c.if-stride_of-voice.false, not-reached _ _ _ c.sources_of.ensures c.if-sources_of-source.false, sym c.is_finite.ensures ∙ c.if-not-is_finite.false, not-below _ _ _ c.held_need.ensures c.if-held-held_need.false)
