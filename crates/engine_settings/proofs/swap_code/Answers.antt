-- `engine_settings::swap_code` meets its contract.
use borrow.Author.Tests.{eq-eqb, ne_eqb, lt-ltb, le-ltb, not-true, not-false}
use mathlib.Core.Path.{sym, ◌∙◌}
use Rattle.engine_settings.specs.Codes.{swap_code}
use borrow.Author.Rules.{rules}
use Rattle.engine_settings.proofs.swap_code.Goals as goal

pub returns-then-not-gains : goal.returns-then-not-gains
unfolding swap_code
returns-then-not-gains c = simp (c.if-not-gains.true)

pub returns-then-not-same_config : goal.returns-then-not-same_config
unfolding swap_code
returns-then-not-same_config c = simp (c.if-not-gains.false, sym c.same_config.ensures ∙ c.if-not-same_config.true)

pub returns-then-held-eq0 : goal.returns-then-held-eq0
unfolding swap_code
returns-then-held-eq0 c = simp (c.if-not-gains.false, sym c.same_config.ensures ∙ c.if-not-same_config.false, ← c.held.ensures, eq-eqb _ _ c.if-held-eq0.true)

pub returns-then-sources_of-other_sources : goal.returns-then-sources_of-other_sources
unfolding swap_code
returns-then-sources_of-other_sources c = simp (c.if-not-gains.false, sym c.same_config.ensures ∙ c.if-not-same_config.false, ← c.held.ensures, ne_eqb _ _ c.if-held-eq0.false, ← c.sources_of.ensures, lt-ltb _ _ c.if-sources_of-other_sources.true)

pub returns-then-dests_of-other_dests : goal.returns-then-dests_of-other_dests
unfolding swap_code
returns-then-dests_of-other_dests c = simp (c.if-not-gains.false, sym c.same_config.ensures ∙ c.if-not-same_config.false, ← c.held.ensures, ne_eqb _ _ c.if-held-eq0.false, ← c.sources_of.ensures, le-ltb _ _ c.if-sources_of-other_sources.false, ← c.dests_of.ensures, lt-ltb _ _ c.if-dests_of-other_dests.true)

pub returns : goal.returns
unfolding swap_code
returns c = simp (c.if-not-gains.false, sym c.same_config.ensures ∙ c.if-not-same_config.false, ← c.held.ensures, ne_eqb _ _ c.if-held-eq0.false, ← c.sources_of.ensures, le-ltb _ _ c.if-sources_of-other_sources.false, ← c.dests_of.ensures, le-ltb _ _ c.if-dests_of-other_dests.false)
